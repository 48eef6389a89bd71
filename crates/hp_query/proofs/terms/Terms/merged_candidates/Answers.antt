use Rattle.std.proofs.Common.{None, subst, sym, ap, ◌∙◌, option_map}
use Rattle.hp_model.specs.Conditions as model
use Rattle.hp_value.specs.Mapped.{Meets, environment, expression, value}
use Rattle.hp_query.specs.Candidates.{tested}
use Rattle.hp_query.specs.Mapped.{merge}
use Rattle.hp_query.proofs.CandidateLemmas.{merged_of, tested_merged}
use Rattle.hp_query.proofs.terms.Terms.merged_candidates.Goals as goal

pub returns-clause-value : goal.returns-clause-value
returns-clause-value g c = λ world rise allowed.
    let asked = c.args.self.now.asked in
    let env = environment asked.env.now in
    let predicate = expression asked.predicate.now in
    let term = expression c.args.self.now.term.now in
    let how = merge c.args.self.now.merge in
    subst (Meets (option_map value) c.merged_of.result)
    (ap (model.merged how env asked.name.now (tested c.are_selected.result predicate) term None) c.rows.ensures
    ∙ tested_merged env asked.name.now predicate how term None _ c.are_selected.result (λ known. c.in_ok-found.ensures.selected (sym c.are_selected.ensures ∙ known) world rise allowed)
    ∙ merged_of env asked.name.now predicate how term None (c.in_ok-found.ensures.rows world rise allowed))
    c.merged_of.ensures
