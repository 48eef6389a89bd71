use Rattle.std.proofs.Common.{◌≡◌, ◌++◌, map}
use Rattle.hp_model.specs.Transactions as model
use Rattle.hp_rule.specs.Mapped.{detached}
use Rattle.hp_fire.proofs.closing.left_after_abort.Given as goal

-- those so far, and what is left of the rest, are what is left of all
abbrev pub invariant-loop-d : goal.invariant-loop-d
invariant-loop-d l = map detached l.left.items ++ model.survivors (map detached l.d-iterator.rest.items) ≡ model.survivors (map detached l.fn.detached.items)
