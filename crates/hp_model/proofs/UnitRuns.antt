-- Units one after another, and the state before the first.
use Rattle.std.proofs.Common.{◌≡◌, refl, ap, ℕ, zero, suc, List, [], ◌∷◌, ◌++◌, None, length, get_or}
use Rattle.std.specs.Prelude.{replicate}
use Rattle.std.specs.List.Sorted.{IsStrictlySortedBy}
use Rattle.std.proofs.lemmas.List.{length-replicate}
use Rattle.hp_model.specs.Rules.{Library, rule_at}
use Rattle.hp_model.specs.State.{State, absent, RuleState, with_status, rule_state, initial_state, IsOrdered}
use Rattle.hp_model.specs.Cascade.{Unit, run_unit, unit_report, run_units}
use Rattle.hp_model.specs.Cells.{Cell, object_cell, rule_cell, detector_cell, cells, status_in, knowledge_in}

-- one more unit after others
pub units_push : (library : Library) (us : List Unit) (u : Unit) (S : State)
    → run_units library (us ++ u ∷ []) S
    ≡ record {
      units = (run_units library us S).units ++ unit_report u (run_unit library u (run_units library us S).state) ∷ [];
      state = (run_unit library u (run_units library us S).state).state;
    }
units_push library [] u S = refl
units_push library (v ∷ us) u S = λ i.
    record {
      units = unit_report v (run_unit library v S) ∷ (units_push library us u (run_unit library v S).state i).units;
      state = (units_push library us u (run_unit library v S).state i).state;
    }

-- ---- the initial state

each_same : {A : Type 0} (n i : ℕ) (a : A) → get_or (replicate n a) i a ≡ a
each_same zero i a = refl
each_same (suc n) zero a = refl
each_same (suc n) (suc i) a = each_same n i a

absent_rule : (library : Library) (n : ℕ) → rule_state (initial_state library) n ≡ with_status absent
absent_rule library n = each_same (length library.rules) n (with_status absent)

-- each of its cells is empty
pub initial_cells : (library : Library) (q : Cell) → cells library (initial_state library) q ≡ None
initial_cells library (object_cell class key) = refl
initial_cells library (rule_cell n) = ap (λ (r : RuleState). status_in r.status) (absent_rule library n)
initial_cells library (detector_cell n) = ap (λ (r : RuleState). knowledge_in (rule_at library n) r.status r) (absent_rule library n)

pub initial_ordered : (library : Library) → IsOrdered library (initial_state library)
unfolding IsStrictlySortedBy
initial_ordered library = record { objects_rise = tt; each_rule = length-replicate (length library.rules) (with_status absent) }
