-- What a book keeps.
use Rattle.std.specs.Prelude.{◌≡◌, List, [], ◌∷◌}
use Rattle.hp_model.specs.Rules.{Library}
use Rattle.hp_model.specs.State.{State, IsOrdered}
use Rattle.hp_model.specs.Cascade.{transaction, run_unit, unit_report}
use Rattle.hp_model.specs.Cells.{Cells, cells}
use Rattle.hp_model.specs.Sessions.{Entry, HasFitState}

-- a serial run that leaves an ordered state with these cells
abbrev pub LeadsInOrder : Library → State → List Entry → Cells → Type 0
LeadsInOrder library S [] now = (cells library S ≡ now) × IsOrdered library S
LeadsInOrder library S (e ∷ es) now =
    (unit_report (transaction e.now e.body) (run_unit library (transaction e.now e.body) S) ≡ e.reply)
    × LeadsInOrder library (run_unit library (transaction e.now e.body) S).state es now

-- the history is legal, and each state that it leads to is ordered
pub record IsKept (library : Library) (opening now : Cells) (history : List Entry) : Type 0 where
  pub opened : HasFitState library opening
  pub leads : (S : State) → IsOrdered library S → cells library S ≡ opening → LeadsInOrder library S history now
