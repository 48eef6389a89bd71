-- The history of a book to which sessions submit bodies.
use Rattle.std.specs.Prelude.{◌≡◌, ℕ, List, [], ◌∷◌}
use Rattle.hp_model.specs.Rules.{Body, Library}
use Rattle.hp_model.specs.State.{State, IsOrdered, IsFit}
use Rattle.hp_model.specs.Cascade.{transaction, UnitReport, run_unit, unit_report}
use Rattle.hp_model.specs.Cells.{Cells, cells}

-- a submission: its session, its body, the clock's moment when it ran, and the reply
pub record Entry : Type 0 where
  pub session : ℕ
  pub body : Body
  pub now : ℕ
  pub reply : UnitReport

-- from the state, the bodies, run one after another as units, give the replies and leave these cells
abbrev pub IsSerialRun : Library → State → List Entry → Cells → Type 0
IsSerialRun library S [] now = cells library S ≡ now
IsSerialRun library S (e ∷ es) now =
    (unit_report (transaction e.now e.body) (run_unit library (transaction e.now e.body) S) ≡ e.reply)
    × IsSerialRun library (run_unit library (transaction e.now e.body) S).state es now

-- a fit state has these cells
abbrev pub HasFitState : Library → Cells → Type 0
HasFitState library now = (S : State) × IsFit library S × (cells library S ≡ now)

-- a fit state has the opening cells, and from each ordered state with these cells the history is a serial run
pub record IsLegal (library : Library) (opening now : Cells) (history : List Entry) : Type 0 where
  pub opened : HasFitState library opening
  pub serial : (S : State) → IsOrdered library S → cells library S ≡ opening → IsSerialRun library S history now
