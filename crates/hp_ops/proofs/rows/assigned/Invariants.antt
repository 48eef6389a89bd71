use Rattle.std.proofs.Common.{◌≡◌, drop, map}
use Rattle.hp_model.specs.Firing as model
use Rattle.hp_value.specs.Mapped.{environment}
use Rattle.hp_rule.specs.Mapped.{assignment}
use Rattle.hp_ops.specs.Given.{given_in}
use Rattle.hp_ops.proofs.GivenRows.{onto}
use Rattle.hp_ops.proofs.rows.assigned.Given as goal

-- those so far, and then the rest, are all
abbrev pub invariant-loop-pair : goal.invariant-loop-pair
invariant-loop-pair l =
    onto (given_in l.given.items) (model.assigned (environment l.env) (map assignment (drop l.pair-index l.pairs))) ≡ model.assigned (environment l.env) (map assignment l.pairs)
