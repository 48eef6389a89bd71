use Rattle.std.proofs.Common.{None, subst, sym, option_map, string_bytes}
use Rattle.hp_model.specs.State.{rows_of}
use Rattle.hp_model.specs.Conditions as model
use Rattle.hp_model.specs.Expressions.{less, greater}
use Rattle.hp_value.specs.Mapped.{Meets, environment, expression, value}
use Rattle.hp_query.specs.Mapped as mapped
use Rattle.hp_query.proofs.aggregate.aggregated.Goals as goal

pub returns-in-Least-clause-value : goal.returns-in-Least-clause-value
returns-in-Least-clause-value g c = λ world rise allowed.
    let rows = c.in-Least.rows in
    let env = environment c.args.env.now in
    subst (λ a. Meets (option_map value) c.merged_terms-in-Least.result (model.aggregated world env (mapped.aggregate a))) (sym c.in-Least.is)
    (subst
    (λ e. Meets (option_map value) c.merged_terms-in-Least.result
    (model.merged (model.preferred less) env (string_bytes rows.name) (expression rows.predicate.value) (expression e) None (rows_of rows.class world)))
    c.deref-in-Least.ensures (c.merged_terms-in-Least.ensures.value world rise allowed))

pub returns-in-Greatest-clause-value : goal.returns-in-Greatest-clause-value
returns-in-Greatest-clause-value g c = λ world rise allowed.
    let rows = c.in-Greatest.rows in
    let env = environment c.args.env.now in
    subst (λ a. Meets (option_map value) c.merged_terms-in-Greatest.result (model.aggregated world env (mapped.aggregate a))) (sym c.in-Greatest.is)
    (subst
    (λ e. Meets (option_map value) c.merged_terms-in-Greatest.result
    (model.merged (model.preferred greater) env (string_bytes rows.name) (expression rows.predicate.value) (expression e) None (rows_of rows.class world)))
    c.deref-in-Greatest.ensures (c.merged_terms-in-Greatest.ensures.value world rise allowed))
