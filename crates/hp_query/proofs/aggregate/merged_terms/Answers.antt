use Rattle.std.proofs.Common.{None, subst, option_map}
use Rattle.hp_model.specs.State.{rows_of}
use Rattle.hp_model.specs.Conditions as model
use Rattle.hp_value.specs.Mapped.{Meets, expression, value}
use Rattle.hp_query.specs.Mapped.{merge}
use Rattle.hp_query.proofs.aggregate.merged_terms.Goals as goal

pub returns-clause-value : goal.returns-clause-value
returns-clause-value g c = λ world rise allowed.
    let is = c.new-asked.ensures in
    subst (Meets (option_map value) c.merged.result)
    (λ i. model.merged (merge c.args.merge) (is.env i) (is.name i) (is.predicate i) (expression c.args.term.now) None (rows_of (is.class i) world))
    (c.merged.ensures.value world rise allowed)
