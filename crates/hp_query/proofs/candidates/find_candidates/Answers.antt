use Rattle.std.proofs.Common.{subst, sym}
use Rattle.hp_model.specs.State.{rows_of}
use Rattle.hp_value.specs.Mapped.{environment, expression}
use Rattle.hp_query.specs.Candidates.{AreCandidates}
use Rattle.hp_query.proofs.CandidateLemmas.{all_rows}
use Rattle.hp_query.proofs.candidates.find_candidates.Goals as goal

pub returns-clause-rows : goal.returns-clause-rows
returns-clause-rows g c = λ world rise allowed.
    let asked = c.args.asked.now in
    let env = environment asked.env.now in
    let predicate = expression asked.predicate.now in
    subst (λ rows. AreCandidates env asked.name.now predicate rows (rows_of asked.class world)) (sym (c.in_ok-objects_of.ensures.listed world rise allowed))
    (all_rows env asked.name.now predicate (rows_of asked.class world))
