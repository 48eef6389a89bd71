use Rattle.std.proofs.Common.{sym, ◌∙◌}
use Rattle.hp_value.specs.Mapped.{value, cause, environment}
use Rattle.hp_query.proofs.AskedLemmas.{true_inside}
use Rattle.hp_query.proofs.part.asked_part.Goals as goal

pub returns-in-Ok-clause-outside : goal.returns-in-Ok-clause-outside
returns-in-Ok-clause-outside c = c.in-Some.ensures.asks.asks (environment c.args.env.now) (cause c.in-Err.field-0) (value c.in-Ok.value) (sym c.in-Err.ensures) (sym c.in-Ok.ensures)

pub returns-in-Ok-clause-inside : goal.returns-in-Ok-clause-inside
returns-in-Ok-clause-inside c = λ exact.
    true_inside c.in-Some.ensures.compares (sym c.is_exact.ensures ∙ exact) (environment c.args.env.now) (cause c.in-Err.field-0) (value c.in-Ok.value) (sym c.in-Err.ensures) (sym c.in-Ok.ensures)
