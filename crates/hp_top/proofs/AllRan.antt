-- All units of a list ran.
use Rattle.std.proofs.Common.{◌≡◌, subst, List, length, arith}
use Rattle.std.proofs.lemmas.List.{take_all}
use Rattle.hp_model.specs.Rules.{Library}
use Rattle.hp_model.specs.State.{State, IsOrdered}
use Rattle.hp_model.specs.Cascade.{Unit, UnitReport, run_units}
use Rattle.hp_model.specs.Cells.{Cells, cells}
use Rattle.hp_model.specs.Soundness.{LeadsTo}
use Rattle.hp_top.specs.Units.{RanUnits}

-- where as many units are reported as there are, the reports and the cells are those of the whole list
pub all_ran : (library : Library) (units : List Unit) (before after : Cells) (reports : List UnitReport) (S : State)
    → RanUnits library units before after reports → length reports ≡ length units → IsOrdered library S → cells library S ≡ before
    → LeadsTo library (run_units library units S).units (run_units library units S).state reports after
all_ran library units before after reports S ran all ordered same =
    subst (λ us. LeadsTo library (run_units library us S).units (run_units library us S).state reports after) (take_all (length reports) units (omega (arith, all)))
    (ran.from S ordered same)
