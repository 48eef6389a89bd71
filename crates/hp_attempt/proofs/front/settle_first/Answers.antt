use Rattle.std.proofs.Common.{◌∷◌, sym, ap, ◌∙◌}
use Rattle.hp_rule.specs.Mapped.{task}
use Rattle.hp_attempt.proofs.Fronting.{leaves_first, takes_first}
use Rattle.hp_attempt.proofs.front.settle_first.Goals as goal

pub returns-in-Rejected-clause-left : goal.returns-in-Rejected-clause-left
returns-in-Rejected-clause-left c =
    leaves_first (task c.args.task.now) c.args.attempts.now.items c.in-Some-Some.attempt c.in-Some-Some.field-0.now c.in_ok-settle.field-0
    (sym c.in-Some-Some.field-0-is ∙ c.in-Some-Some.ensures.item.1) c.in-Rejected.is
    c.in_ok-settle.ensures.rejected c.in_ok-settle.ensures.accepted

pub returns-clause-taken : goal.returns-clause-taken
returns-clause-taken c =
    takes_first (task c.args.task.now) c.args.attempts.now.items c.pop_front.new.self.items c.in-Some-Some.attempt c.in-Some-Some-pop_front.attempt c.in-Some-Some.field-0.now
    (c.in-Some-Some-pop_front.ensures.items ∙ ap (λ x. x ∷ c.pop_front.new.self.items) c.in-Some-Some-pop_front.field-0-is)
    (sym c.in-Some-Some.field-0-is ∙ c.in-Some-Some.ensures.item.1) (c.in_ok-settle.ensures.for_states c.in-Accepted.is)
    (record { base = c.settle.ensures.goes_on.base; reads = c.in_ok-settle.ensures.reads c.in-Accepted.is; changes = c.in_ok-settle.ensures.takes c.in-Accepted.is })
