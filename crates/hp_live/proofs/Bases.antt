-- A kept rule base, and what it stands for.
use Rattle.std.proofs.Common.{◌≡◌, subst, List, length}
use Rattle.hp_model.specs.Rules.{Library}
use Rattle.hp_model.specs.State.{IsOrdered}
use Rattle.hp_model.specs.Cascade.{Unit, UnitReport, run_units}
use Rattle.hp_model.specs.Cells.{Cells, cells}
use Rattle.hp_model.specs.Soundness.{LeadsTo}
use Rattle.hp_top.specs.Units.{RanUnits}
use Rattle.hp_top.proofs.AllRan.{all_ran}
use Rattle.hp_lines.specs.Live as L

-- the units ran on both rule bases
pub ran_from : (l : Library) (us : List Unit) (before after : Cells) (rs : List UnitReport) (base : L.RuleBase) → RanUnits l us before after rs → length rs ≡ length us
    → l ≡ base.library → IsOrdered base.library base.state → cells base.library base.state ≡ before
    → LeadsTo base.library (run_units base.library us base.state).units (run_units base.library us base.state).state rs after
ran_from l us before after rs base ran all same ordered is =
    all_ran base.library us before after rs base.state (subst (λ l. RanUnits l us before after rs) same ran) all ordered is
