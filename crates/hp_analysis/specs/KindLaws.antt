-- What a kinded rule base promises of its runs.
use Rattle.std.specs.Prelude.{Bool, ◌&&◌, IsTrue, List}
use Rattle.std.specs.List.{list_all, AllByRecursion}
use Rattle.hp_model.specs.Rules.{Library}
use Rattle.hp_model.specs.State.{State, IsFit}
use Rattle.hp_model.specs.Ranges.{unit_fits}
use Rattle.hp_model.specs.Cascade.{Unit, transactions_of, run_unit, evaluate}
use Rattle.hp_model.specs.Endings.{TransactionsHaveOnly, ReportHasOnly}
use Rattle.hp_model.specs.Kinds.{Declared, library_kinded, unit_kinded, KindedCause, ArePastsDeclared}

abbrev pub script_kinded : Library → Declared → List Unit → Bool
script_kinded library d us = library_kinded library d && list_all (unit_kinded library d) us

-- the unit, run on a kinded library from a fit state in which all signals are as declared, ends nothing because of a
-- kind or a part, and leaves such a state
abbrev pub KeepsKinds : Library → Declared → Unit → Type 0
KeepsKinds library d unit =
    IsTrue (library_kinded library d) → IsTrue (unit_fits library unit) → (S : State) → IsFit library S → ArePastsDeclared d S
    → TransactionsHaveOnly (KindedCause library) (transactions_of (run_unit library unit S)) × ArePastsDeclared d (run_unit library unit S).state

-- the units, run one after another from the start, end nothing because of a kind or a part
abbrev pub NeverEndsOfKinds : Library → List Unit → Type 0
NeverEndsOfKinds library us = AllByRecursion (λ u. IsTrue (unit_fits library u)) us → AllByRecursion (ReportHasOnly (KindedCause library)) (evaluate (record { library = library; units = us })).units
