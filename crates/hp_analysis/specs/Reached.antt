-- Which rules firings can reach, from what units trigger.
use Rattle.std.specs.Prelude.{ℕ, zero, suc, Bool, true, not, ◌&&◌, List, [], ◌∷◌, length, slice_set, map, Option, Some, None, if◌then◌else◌, ◌≡◌}
use Rattle.std.specs.List.{slice_index_or, AllByRecursion}
use Rattle.std.specs.Option.{option_map_or}
use Rattle.hp_model.specs.Rules.{Library}
use Rattle.hp_model.specs.State.{State}
use Rattle.hp_model.specs.Cascade.{Unit, Transaction, transactions_of, run_unit}
use Rattle.hp_model.specs.Chains.{IsTaskReached, FiresReached}
use Rattle.hp_analysis.specs.Sets.{no_rules, targets, begun, is_within}

-- whether a rule is in the set; one that the set has no place for counts as in it
abbrev pub has : List Bool → ℕ → Bool
has set n = slice_index_or set n true

-- the set with the rules of another one, whose first is numbered n
abbrev pub united_from : ℕ → (other set : List Bool) → List Bool
united_from n [] set = set
united_from n (member ∷ other) set = united_from (suc n) other (if member then slice_set set n true else set)

-- what the first rule of the set, from the n-th on, triggers that may trigger a rule outside the set
abbrev pub leading_out : (set : List Bool) → ℕ → (after : List (List Bool)) → Option (List Bool)
leading_out set n [] = None
leading_out set n (triggered ∷ after) = if has set n && not (is_within set triggered) then Some triggered else leading_out set (suc n) after

-- the set with what its rules may trigger, and what these may trigger, and so on, in at most so many steps
abbrev pub closure : (steps : ℕ) → (after : List (List Bool)) → (set : List Bool) → List Bool
closure zero after set = set
closure (suc steps) after set = option_map_or (λ triggered. closure steps after (united_from 0 triggered set)) (leading_out set 0 after) set

-- the rules that firings can reach from what the units trigger
abbrev pub reached : Library → List Unit → List Bool
reached library units = closure (length library.rules) (map (targets library) library.rules) (begun library units (no_rules library))

-- each rule that one of the set may trigger is in it
abbrev pub IsClosedSet : Library → List Bool → Type 0
IsClosedSet library set = leading_out set 0 (map (targets library) library.rules) ≡ None

-- it has what the units trigger
abbrev pub HasBegun : Library → List Unit → List Bool → Type 0
HasBegun library units set = is_within set (begun library units (no_rules library)) ≡ true

-- the least closed set that has what the units trigger
pub record IsReached (library : Library) (units : List Unit) (set : List Bool) : Type 0 where
  pub count : length set ≡ length (no_rules library)
  pub begun : HasBegun library units set
  pub closed : IsClosedSet library set
  pub least : (other : List Bool) → length other ≡ length set → HasBegun library units other → IsClosedSet library other → is_within other set ≡ true

abbrev pub ReachedIsLeast : Type 0
ReachedIsLeast = (library : Library) (units : List Unit) → IsReached library units (reached library units)

-- the units fire no rule outside the set, whatever the state is
abbrev pub UnreachedNeverFire : Type 0
UnreachedNeverFire = (library : Library) (units : List Unit)
    → AllByRecursion (λ u. (S : State) → AllByRecursion (λ (t : Transaction). IsTaskReached (has (reached library units)) t.task
    × FiresReached (has (reached library units)) t.items) (transactions_of (run_unit library u S))) units
