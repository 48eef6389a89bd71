use Rattle.std.proofs.Common.{◌≡◌, drop, take, map}
use Rattle.hp_model.specs.Firing as model
use Rattle.hp_value.specs.Mapped.{field}
use Rattle.hp_ops.specs.Given.{given_in}
use Rattle.hp_ops.proofs.GivenRows.{onto}
use Rattle.hp_ops.proofs.rows.check_kinds.Given as goal

-- those so far are of their kinds
abbrev pub invariant-loop-g : goal.invariant-loop-g
invariant-loop-g l =
    onto (given_in (take l.g-index l.given)) (model.checked_kinds (map field l.fields) (given_in (drop l.g-index l.given))) ≡ model.checked_kinds (map field l.fields) (given_in l.given)
