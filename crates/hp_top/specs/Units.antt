-- Runs of units on the committed store, and attempts at them.
use Rattle.std.specs.Prelude.{◌≡◌, ◌≤◌, pos, IsTrue, List, [], ◌∷◌, ◌++◌, length, take, map, flat_map, Ok}
use Rattle.hp_model.specs.Values.{fits_64}
use Rattle.hp_model.specs.Rules.{Library}
use Rattle.hp_model.specs.State.{State, IsOrdered, initial_state}
use Rattle.hp_model.specs.Cascade.{Unit, transaction, moment, Generation, run_unit, UnitReport, unit_report, transaction_report, run_units}
use Rattle.hp_model.specs.Cells.{Cells, cells, Changes, over, Read, Holds}
use Rattle.hp_model.specs.Soundness.{LeadsTo}
use Rattle.hp_model.specs.Checked.{script_body_check}
use Rattle.hp_model.specs.Sessions.{HasFitState}
use Rattle.hp_model.specs.Laws.{replay_transactions, replay_units, AreLawful}

-- an attempt at a unit is sound if it stands for the unit on every ordered state where its reads hold
pub record IsSoundUnit (library : Library) (unit : Unit) (reads : List Read) (layer : Changes) (report : UnitReport) : Type 0 where
  pub from : (S : State) → IsOrdered library S → Holds (cells library S) reads
      → LeadsTo library (unit_report unit (run_unit library unit S)) (run_unit library unit S).state report (over (cells library S) layer)

-- a unit of the library: a body that is well formed with it, or a moment; its moment is within 64 bits
abbrev pub IsUnitOf : Library → Unit → Type 0
IsUnitOf library (transaction now body) = IsTrue (fits_64 (pos now)) × (script_body_check library [] body ≡ Ok tt)
IsUnitOf library (moment t) = IsTrue (fits_64 (pos t))

-- the unit ran: from each ordered state with the earlier cells its report is this one, and it leaves an ordered state
-- with the later cells
pub record RanUnit (library : Library) (unit : Unit) (before after : Cells) (report : UnitReport) : Type 0 where
  pub from : (S : State) → IsOrdered library S → cells library S ≡ before → LeadsTo library (unit_report unit (run_unit library unit S)) (run_unit library unit S).state report after

-- the objects of that state are the replay of the report's trees
pub record IsReplayed (library : Library) (unit : Unit) (before : Cells) (report : UnitReport) : Type 0 where
  pub from : (S : State) → IsOrdered library S → cells library S ≡ before → (run_unit library unit S).state.objects ≡ replay_transactions S.objects report.transactions

-- the report is that of generations, each of which ran the tasks that the trees of the one before detached and whose
-- coupling lets them run
pub record IsLawful (library : Library) (unit : Unit) (before : Cells) (report : UnitReport) : Type 0 where
  pub reported : (S : State) → IsOrdered library S → cells library S ≡ before
      → map transaction_report (flat_map (λ (g : Generation). g.transactions) (run_unit library unit S).generations) ≡ report.transactions
  pub lawful : (S : State) → IsOrdered library S → cells library S ≡ before → AreLawful (run_unit library unit S).generations

-- one more unit ran, and its report follows the others
pub record RanNext (library : Library) (unit : Unit) (before after : Cells) (former reports : List UnitReport) : Type 0 where
  pub report : UnitReport
  pub reported : reports ≡ former ++ report ∷ []
  pub ran : RanUnit library unit before after report

-- the first units ran, one after another: as many as there are reports
pub record RanUnits (library : Library) (units : List Unit) (before after : Cells) (reports : List UnitReport) : Type 0 where
  pub within : length reports ≤ length units
  pub from : (S : State) → IsOrdered library S → cells library S ≡ before
      → LeadsTo library (run_units library (take (length reports) units) S).units (run_units library (take (length reports) units) S).state reports after

-- the objects after them are the replay of the reports' trees
pub record AreReplayed (library : Library) (units : List Unit) (before : Cells) (reports : List UnitReport) : Type 0 where
  pub from : (S : State) → IsOrdered library S → cells library S ≡ before
      → (run_units library (take (length reports) units) S).state.objects ≡ replay_units S.objects reports

-- the cells are those of the initial state, which is fit, whatever the library
pub record IsOpening (base : Cells) : Type 0 where
  pub cells : (library : Library) → cells library (initial_state library) ≡ base
  pub ordered : (library : Library) → IsOrdered library (initial_state library)
  pub fit : (library : Library) → HasFitState library base
