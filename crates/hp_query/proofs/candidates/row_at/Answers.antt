use Rattle.std.proofs.Common.{◌≡◌, sym, ap, subst, ◌∙◌, Some, None, w64, to_z, of_z}
use Rattle.std.proofs.lemmas.Int.{to_z-of_z}
use Rattle.hp_model.specs.State.{find_object, rows_of}
use Rattle.hp_value.specs.Mapped.{environment, expression}
use Rattle.hp_query.specs.Candidates.{AreCandidates}
use Rattle.hp_query.proofs.RowLemmas.{with_key}
use Rattle.hp_query.proofs.CandidateLemmas.{row_of_key}
use Rattle.hp_query.proofs.candidates.row_at.Goals as goal

pub returns-in-Some-clause-row : goal.returns-in-Some-clause-row
returns-in-Some-clause-row g c = λ world rise allowed.
    let asked = c.args.asked.now in
    let env = environment asked.env.now in
    let predicate = expression asked.predicate.now in
    let same : to_z w64 (of_z w64 c.args.key) ≡ c.args.key = to_z-of_z w64 c.args.key c.ranges.key in
    let found : Some c.in-Some.row ≡ find_object world asked.class c.args.key = sym c.in-Some.is ∙ c.in_ok-row.ensures.found world rise allowed ∙ ap (find_object world asked.class) same in
    subst (λ k. AreCandidates env asked.name.now predicate (with_key k (Some c.in-Some.row)) (rows_of asked.class world)) (sym same)
    (row_of_key env asked.name.now predicate c.args.key asked.class world (Some c.in-Some.row) c.requires rise found)

pub returns-in-None-clause-row : goal.returns-in-None-clause-row
returns-in-None-clause-row g c = λ world rise allowed.
    let asked = c.args.asked.now in
    let same : to_z w64 (of_z w64 c.args.key) ≡ c.args.key = to_z-of_z w64 c.args.key c.ranges.key in
    let found : None ≡ find_object world asked.class c.args.key = sym c.in-None.is ∙ c.in_ok-row.ensures.found world rise allowed ∙ ap (find_object world asked.class) same in
    row_of_key (environment asked.env.now) asked.name.now (expression asked.predicate.now) c.args.key asked.class world None c.requires rise found
