-- The least closed set of rules that has what units trigger; no other rule fires.
use Rattle.std.proofs.Common.{arith, ◌≡◌, refl, sym, ap, ◌∙◌, subst, ℕ, zero, suc, ◌+◌, ◌<◌, ◌≤◌, List, [], ◌∷◌, ◌++◌, length, map, Bool, true, false, ◌&&◌, Option, Some, None, length-set}
use Rattle.std.specs.Prelude.{if◌then◌else◌, slice_set, not, is_none}
use Rattle.std.specs.List.{AllByRecursion, list_all, slice_index_or}
use Rattle.std.specs.Option.{option_map_or}
use Rattle.std.proofs.lemmas.Bool.{and_parts, and_from}
use Rattle.std.proofs.lemmas.List.{get_or_past, length-map}
use Rattle.hp_model.specs.Rules.{Rule, no_rule, Library, rule_at}
use Rattle.hp_model.specs.State.{State}
use Rattle.hp_model.specs.Cascade.{Unit, Transaction, transactions_of, run_unit}
use Rattle.hp_model.specs.Chains.{rule_triggers, unit_triggers, IsClosed, IsTaskReached, FiresReached}
use Rattle.hp_model.proofs.Reached.{others_never_fire}
use Rattle.hp_analysis.specs.Sets.{marked, no_rules, targets, gathered, begun, outside_from, is_within}
use Rattle.hp_analysis.specs.Reached.{has, united_from, leading_out, IsClosedSet, HasBegun, closure, reached, ReachedIsLeast, UnreachedNeverFire}
use Rattle.hp_analysis.proofs.Within.{within_set, within_marked, swap_and, marked_length}

-- ---- sets that grow

abbrev Grows : List Bool → List Bool → Type 0
Grows set more = (m : ℕ) → has set m ≡ true → has more m ≡ true

set_grows : (set : List Bool) (n : ℕ) → Grows set (slice_set set n true)
set_grows [] zero m h = h
set_grows [] (suc n) m h = h
set_grows (s ∷ set) zero zero h = refl
set_grows (s ∷ set) zero (suc m) h = h
set_grows (s ∷ set) (suc n) zero h = h
set_grows (s ∷ set) (suc n) (suc m) h = set_grows set n m h

united_grows : (n : ℕ) (other set : List Bool) → Grows set (united_from n other set)
united_grows n [] set m h = h
united_grows n (true ∷ other) set m h = united_grows (suc n) other (slice_set set n true) m (set_grows set n m h)
united_grows n (false ∷ other) set m h = united_grows (suc n) other set m h

within_grows : (set more : List Bool) → Grows set more → (k : ℕ) (y : List Bool) → is_none (outside_from set k y) ≡ true → is_none (outside_from more k y) ≡ true
within_grows set more up k [] h = refl
within_grows set more up k (false ∷ y) h = within_grows set more up (suc k) y h
within_grows set more up k (true ∷ y) h = by (has set k) refl h (λ i. within_grows set more up (suc k) y i)
  where
    by : (b : Bool) → has set k ≡ b → is_none (if (true && not b) then Some k else outside_from set (suc k) y) ≡ true
        → (is_none (outside_from set (suc k) y) ≡ true → is_none (outside_from more (suc k) y) ≡ true) → is_none (if (true && not (has more k)) then Some k else outside_from more (suc k) y) ≡ true
    by true is i later = ap (λ b. is_none (if (true && not b) then Some k else outside_from more (suc k) y)) (up k is) ∙ later i
    by false is i later = cc

pub begun_stays : (set other y : List Bool) → is_within set y ≡ true → is_within (united_from 0 other set) y ≡ true
begun_stays set other y h = within_grows set (united_from 0 other set) (united_grows 0 other set) 0 y h

-- ---- within another set

united_length : (n : ℕ) (other set : List Bool) → length (united_from n other set) ≡ length set
united_length n [] set = refl
united_length n (true ∷ other) set = united_length (suc n) other (slice_set set n true) ∙ length-set set n true
united_length n (false ∷ other) set = united_length (suc n) other set

pub same_length : (other set : List Bool) → length (united_from 0 other set) ≡ length set
same_length other set = united_length 0 other set

united_within : (q : List Bool) (k : ℕ) (other set : List Bool) → length q ≡ length set → is_none (outside_from q k other) ≡ true → is_within q set ≡ true
    → is_within q (united_from k other set) ≡ true
united_within q k [] set e h i = i
united_within q k (false ∷ other) set e h i = united_within q (suc k) other set e h i
united_within q k (true ∷ other) set e h i = by (has q k) refl h (λ j here. united_within q (suc k) other (slice_set set k true) (e ∙ sym (length-set set k true)) j here)
  where
    by : (b : Bool) → has q k ≡ b → is_none (if (true && not b) then Some k else outside_from q (suc k) other) ≡ true
        → (is_none (outside_from q (suc k) other) ≡ true → is_within q (slice_set set k true) ≡ true → is_within q (united_from (suc k) other (slice_set set k true)) ≡ true)
        → is_within q (united_from (suc k) other (slice_set set k true)) ≡ true
    by true is j later =
        let start : length q ≡ 0 + length set = omega (arith, e) in
        let same : 0 + k ≡ k = omega arith in
        later j (within_set q set 0 k start ∙ ap (λ n. has q n && is_within q set) same ∙ and_from (has q k) (is_within q set) is i)
    by false is j later = cc

-- a rule of a set within another one is in that
inside : (q : List Bool) (k : ℕ) (set : List Bool) (i : ℕ) → length q ≡ k + length set → is_none (outside_from q k set) ≡ true → has set i ≡ true → has q (k + i) ≡ true
inside q k [] i e h is = get_or_past q (k + i) true (omega (arith, e))
inside q k (m ∷ set) zero e h is = let same : k ≡ k + 0 = omega arith in ap (has q) (sym same) ∙ by m (has q k) is refl h
  where
    by : (m b : Bool) → m ≡ true → has q k ≡ b → is_none (if (m && not b) then Some k else outside_from q (suc k) set) ≡ true → has q k ≡ true
    by true true one is j = is
    by true false one is j = cc
    by false b one is j = cc
inside q k (m ∷ set) (suc i) e h is =
    let same : suc k + i ≡ k + suc i = omega arith in
    ap (has q) (sym same) ∙ inside q (suc k) set i (omega (arith, e)) (rest (m && not (has q k)) h) is
  where
    rest : (b : Bool) → is_none (if b then Some k else outside_from q (suc k) set) ≡ true → is_none (outside_from q (suc k) set) ≡ true
    rest true j = cc
    rest false j = j

-- ---- what leads out of a set

found_outside : (set : List Bool) (k : ℕ) (after : List (List Bool)) (triggered : List Bool) → leading_out set k after ≡ Some triggered → is_within set triggered ≡ false
found_outside set k [] triggered e = cc
found_outside set k (first ∷ after) triggered e = by (has set k) (is_within set first) refl e (λ j. found_outside set (suc k) after triggered j)
  where
    by : (a b : Bool) → is_within set first ≡ b → (if (a && not b) then Some first else leading_out set (suc k) after) ≡ Some triggered
        → (leading_out set (suc k) after ≡ Some triggered → is_within set triggered ≡ false) → is_within set triggered ≡ false
    by true true is j later = later j
    by true false is j later = let same : first ≡ triggered = cc in ap (is_within set) (sym same) ∙ is
    by false b is j later = later j

-- a closed set that has the set has what leads out of that
found_within : (q set : List Bool) → length q ≡ length set → is_within q set ≡ true → (k : ℕ) (after : List (List Bool)) (triggered : List Bool)
    → leading_out set k after ≡ Some triggered → leading_out q k after ≡ None → is_within q triggered ≡ true
found_within q set e h k [] triggered one none = cc
found_within q set e h k (first ∷ after) triggered one none = by (has set k) (has q k) (is_within set first) (is_within q first) refl refl refl one none
    (λ i j. found_within q set e h (suc k) after triggered i j)
  where
    closed : has set k ≡ true → has q k ≡ true
    closed is = let same : 0 + k ≡ k = omega arith in ap (has q) (sym same) ∙ inside q 0 set k (omega (arith, e)) h is

    by : (a b c d : Bool) → has set k ≡ a → has q k ≡ b → is_within q first ≡ d → (if (a && not c) then Some first else leading_out set (suc k) after) ≡ Some triggered
        → (if (b && not d) then Some first else leading_out q (suc k) after) ≡ None
        → (leading_out set (suc k) after ≡ Some triggered → leading_out q (suc k) after ≡ None → is_within q triggered ≡ true) → is_within q triggered ≡ true
    by true true true true is_a is_b is_d i j later = later i j
    by true true false true is_a is_b is_d i j later = let same : first ≡ triggered = cc in ap (is_within q) (sym same) ∙ is_d
    by a true c false is_a is_b is_d i j later = cc
    by true false c d is_a is_b is_d i j later = let never : true ≡ false = sym (closed is_a) ∙ is_b in cc
    by false true c true is_a is_b is_d i j later = later i j
    by false false c d is_a is_b is_d i j later = later i j

pub least_stays : (q set : List Bool) (after : List (List Bool)) (triggered : List Bool) → length q ≡ length set → is_within q set ≡ true
    → leading_out set 0 after ≡ Some triggered → leading_out q 0 after ≡ None
    → is_within q (united_from 0 triggered set) ≡ true
least_stays q set after triggered e h one none = united_within q 0 triggered set e (found_within q set e h 0 after triggered one none) h

-- ---- the number of rules that a set lacks

abbrev pub missing : List Bool → ℕ
missing [] = 0
missing (true ∷ set) = missing set
missing (false ∷ set) = suc (missing set)

marks_no_more : (set : List Bool) (n : ℕ) → missing (slice_set set n true) ≤ missing set
marks_no_more [] zero = omega arith
marks_no_more [] (suc n) = omega arith
marks_no_more (true ∷ set) zero = omega arith
marks_no_more (false ∷ set) zero = omega arith
marks_no_more (true ∷ set) (suc n) = marks_no_more set n
marks_no_more (false ∷ set) (suc n) = let low = marks_no_more set n in omega (arith, low)

marks_less : (set : List Bool) (n : ℕ) → has set n ≡ false → missing (slice_set set n true) < missing set
marks_less [] n h = cc
marks_less (true ∷ set) zero h = cc
marks_less (false ∷ set) zero h = omega arith
marks_less (true ∷ set) (suc n) h = marks_less set n h
marks_less (false ∷ set) (suc n) h = let low = marks_less set n h in omega (arith, low)

marks_nothing : (set : List Bool) (n : ℕ) → has set n ≡ true → slice_set set n true ≡ set
marks_nothing [] zero h = refl
marks_nothing [] (suc n) h = refl
marks_nothing (s ∷ set) zero h = ap (λ b. b ∷ set) (sym h)
marks_nothing (s ∷ set) (suc n) h = ap (λ xs. s ∷ xs) (marks_nothing set n h)

unites_no_more : (k : ℕ) (other set : List Bool) → missing (united_from k other set) ≤ missing set
unites_no_more k [] set = omega arith
unites_no_more k (true ∷ other) set = let low = unites_no_more (suc k) other (slice_set set k true) in let one = marks_no_more set k in omega (arith, low, one)
unites_no_more k (false ∷ other) set = unites_no_more (suc k) other set

unites_less : (k : ℕ) (other set : List Bool) → is_none (outside_from set k other) ≡ false → missing (united_from k other set) < missing set
unites_less k [] set h = cc
unites_less k (false ∷ other) set h = unites_less (suc k) other set h
unites_less k (true ∷ other) set h = by (has set k) refl h (λ i. unites_less (suc k) other set i)
  where
    by : (b : Bool) → has set k ≡ b → is_none (if (true && not b) then Some k else outside_from set (suc k) other) ≡ false
        → (is_none (outside_from set (suc k) other) ≡ false → missing (united_from (suc k) other set) < missing set) → missing (united_from (suc k) other (slice_set set k true)) < missing set
    by true is i later = subst (λ s. missing (united_from (suc k) other s) < missing set) (sym (marks_nothing set k is)) (later i)
    by false is i later = let low = unites_no_more (suc k) other (slice_set set k true) in let less = marks_less set k is in omega (arith, low, less)

pub fewer : (set : List Bool) (after : List (List Bool)) (triggered : List Bool) → leading_out set 0 after ≡ Some triggered → missing (united_from 0 triggered set) < missing set
fewer set after triggered e = unites_less 0 triggered set (found_outside set 0 after triggered e)

-- ---- no other rule fires

module _ (library : Library) (set : List Bool) (count : length set ≡ length (no_rules library)) where
  numbers_within : (ns : List ℕ) → is_within set (marked ns (no_rules library)) ≡ true → list_all (has set) ns ≡ true
  numbers_within ns h = (and_parts (list_all (has set) ns) (is_within set (no_rules library)) (sym (within_marked set ns (no_rules library) count) ∙ h)).0

  -- the rules that `leads` gives for each rule
  abbrev led : (leads : Rule → List ℕ) → Rule → List Bool
  led leads r = marked (leads r) (no_rules library)

  closed_at : (leads : Rule → List ℕ) → leads no_rule ≡ [] → (k : ℕ) (rules : List Rule) (n : ℕ) → leading_out set k (map (led leads) rules) ≡ None → has set (k + n) ≡ true
      → list_all (has set) (leads (slice_index_or rules n no_rule)) ≡ true
  closed_at leads none k [] n e h = ap (list_all (has set)) none
  closed_at leads none k (r ∷ rs) zero e h =
      let same : k + 0 ≡ k = omega arith in
      numbers_within (leads r) (by (has set k) (is_within set (led leads r)) (ap (has set) (sym same) ∙ h) e)
    where
      by : (a b : Bool) → a ≡ true → (if (a && not b) then Some (led leads r) else leading_out set (suc k) (map (led leads) rs)) ≡ None → b ≡ true
      by true true one j = refl
      by true false one j = cc
      by false b one j = cc
  closed_at leads none k (r ∷ rs) (suc n) e h =
      let same : suc k + n ≡ k + suc n = omega arith in
      closed_at leads none (suc k) rs n (rest (has set k && not (is_within set (led leads r))) e) (ap (has set) same ∙ h)
    where
      rest : (b : Bool) → (if b then Some (led leads r) else leading_out set (suc k) (map (led leads) rs)) ≡ None → leading_out set (suc k) (map (led leads) rs) ≡ None
      rest true j = cc
      rest false j = j

  pub all_closed : (leads : Rule → List ℕ) → leads no_rule ≡ [] → leading_out set 0 (map (led leads) library.rules) ≡ None → (n : ℕ) → has set n ≡ true
      → list_all (has set) (leads (rule_at library n)) ≡ true
  all_closed leads none e n h = let same : 0 + n ≡ n = omega arith in closed_at leads none 0 library.rules n e (ap (has set) same ∙ h)

  is_closed : IsClosedSet library set → IsClosed library (has set)
  is_closed e = all_closed (rule_triggers library) refl e

  pub gathered_each : (of_unit : Unit → List ℕ) (us : List Unit) (s : List Bool) → length set ≡ length s
      → is_within set (gathered of_unit us s) ≡ (list_all (λ u. list_all (has set) (of_unit u)) us && is_within set s)
  gathered_each of_unit [] s e = refl
  gathered_each of_unit (u ∷ us) s e =
      gathered_each of_unit us (marked (of_unit u) s) (e ∙ sym (marked_length (of_unit u) s))
      ∙ ap (λ b. list_all (λ v. list_all (has set) (of_unit v)) us && b) (within_marked set (of_unit u) s e)
      ∙ swap_and (list_all (λ v. list_all (has set) (of_unit v)) us) (list_all (has set) (of_unit u)) (is_within set s)

  never : IsClosedSet library set → (us : List Unit) → list_all (λ u. list_all (has set) (unit_triggers library u)) us ≡ true
      → AllByRecursion (λ u. (S : State) → AllByRecursion (λ (t : Transaction). IsTaskReached (has set) t.task × FiresReached (has set) t.items) (transactions_of (run_unit library u S))) us
  never e [] h = tt
  never e (u ∷ us) h =
      let parts = and_parts (list_all (has set) (unit_triggers library u)) (list_all (λ v. list_all (has set) (unit_triggers library v)) us) h in
      (others_never_fire library (has set) (is_closed e) u parts.0, never e us parts.1)

-- ---- the least closed set

missing_length : (set : List Bool) → missing set ≤ length set
missing_length [] = omega arith
missing_length (true ∷ set) = let low = missing_length set in omega (arith, low)
missing_length (false ∷ set) = let low = missing_length set in omega (arith, low)

pub gathered_length : (of_unit : Unit → List ℕ) (us : List Unit) (set : List Bool) → length (gathered of_unit us set) ≡ length set
gathered_length of_unit [] set = refl
gathered_length of_unit (u ∷ us) set = gathered_length of_unit us (marked (of_unit u) set) ∙ marked_length (of_unit u) set

within_itself : (set : List Bool) → is_within set set ≡ true
within_itself set = by set 0 (λ i. let same : 0 + i ≡ i = omega arith in ap (has set) same)
  where
    by : (rest : List Bool) (k : ℕ) → ((i : ℕ) → has set (k + i) ≡ has rest i) → is_none (outside_from set k rest) ≡ true
    by [] k same = refl
    by (true ∷ rest) k same =
        let start : k ≡ k + 0 = omega arith in
        let later : (i : ℕ) → suc k + i ≡ k + suc i = λ i. omega arith in
        ap (λ b. is_none (if (true && not b) then Some k else outside_from set (suc k) rest)) (ap (has set) start ∙ same 0) ∙ by rest (suc k) (λ i. ap (has set) (later i) ∙ same (suc i))
    by (false ∷ rest) k same =
        let later : (i : ℕ) → suc k + i ≡ k + suc i = λ i. omega arith in
        by rest (suc k) (λ i. ap (has set) (later i) ∙ same (suc i))

-- what holds of the set, and stays so as it grows, holds of the closure; nothing leads out of that
module _ (after : List (List Bool)) (P : List Bool → Type 0) (stays : (set triggered : List Bool) → leading_out set 0 after ≡ Some triggered → P set → P (united_from 0 triggered set)) where
  closed_and_kept : (steps : ℕ) (set : List Bool) → missing set ≤ steps → P set → (leading_out (closure steps after set) 0 after ≡ None) × P (closure steps after set)
  closed_and_kept zero set few h = by (leading_out set 0 after) refl
    where
      by : (o : Option (List Bool)) → leading_out set 0 after ≡ o → (leading_out set 0 after ≡ None) × P set
      by None is = (is, h)
      by (Some triggered) is = let less = fewer set after triggered is in absurd (omega (arith, few, less))
  closed_and_kept (suc steps) set few h =
      by (leading_out set 0 after) refl (λ triggered is. closed_and_kept steps (united_from 0 triggered set) (let less = fewer set after triggered is in omega (arith, few, less))
      (stays set triggered is h))
    where
      by : (o : Option (List Bool)) → leading_out set 0 after ≡ o
          → ((triggered : List Bool) → leading_out set 0 after ≡ Some triggered → (leading_out (closure steps after (united_from 0 triggered set)) 0 after ≡ None)
          × P (closure steps after (united_from 0 triggered set)))
          → (leading_out (option_map_or (λ t. closure steps after (united_from 0 t set)) o set) 0 after ≡ None) × P (option_map_or (λ t. closure steps after (united_from 0 t set)) o set)
      by None is next = (is, h)
      by (Some triggered) is next = next triggered is

-- the number of steps makes no difference, if it is large enough
closure_same : (after : List (List Bool)) (m n : ℕ) (set : List Bool) → missing set ≤ m → missing set ≤ n → closure m after set ≡ closure n after set
closure_same after zero zero set low high = refl
closure_same after zero (suc n) set low high = by (leading_out set 0 after) refl
  where
    by : (o : Option (List Bool)) → leading_out set 0 after ≡ o → set ≡ option_map_or (λ t. closure n after (united_from 0 t set)) o set
    by None is = refl
    by (Some triggered) is = let less = fewer set after triggered is in absurd (omega (arith, low, less))
closure_same after (suc m) zero set low high = by (leading_out set 0 after) refl
  where
    by : (o : Option (List Bool)) → leading_out set 0 after ≡ o → option_map_or (λ t. closure m after (united_from 0 t set)) o set ≡ set
    by None is = refl
    by (Some triggered) is = let less = fewer set after triggered is in absurd (omega (arith, high, less))
closure_same after (suc m) (suc n) set low high =
    by (leading_out set 0 after) refl (λ triggered is. let less = fewer set after triggered is in closure_same after m n (united_from 0 triggered set)
    (omega (arith, low, less)) (omega (arith, high, less)))
  where
    by : (o : Option (List Bool)) → leading_out set 0 after ≡ o → ((triggered : List Bool) → leading_out set 0 after ≡ Some triggered
        → closure m after (united_from 0 triggered set) ≡ closure n after (united_from 0 triggered set))
        → option_map_or (λ t. closure m after (united_from 0 t set)) o set ≡ option_map_or (λ t. closure n after (united_from 0 t set)) o set
    by None is next = refl
    by (Some triggered) is next = next triggered is

-- one step, and no step
pub closure_more : (after : List (List Bool)) (set triggered : List Bool) → leading_out set 0 after ≡ Some triggered
    → closure (length set) after set ≡ closure (length set) after (united_from 0 triggered set)
closure_more after set triggered is =
    let less = fewer set after triggered is in
    let few = missing_length set in
    closure_same after (length set) (suc (length set)) set few (omega (arith, few))
    ∙ ap (λ o. option_map_or (λ t. closure (length set) after (united_from 0 t set)) o set) is

pub closure_ends : (after : List (List Bool)) (steps : ℕ) (set : List Bool) → leading_out set 0 after ≡ None → closure steps after set ≡ set
closure_ends after zero set is = refl
closure_ends after (suc steps) set is = ap (λ o. option_map_or (λ t. closure steps after (united_from 0 t set)) o set) is

-- the closure so far is that of the set at the start
abbrev pub LeadsTo : (after : List (List Bool)) → (start set : List Bool) → Type 0
LeadsTo after start set = closure (length set) after set ≡ closure (length start) after start

pub goes_on : (after : List (List Bool)) (start set triggered more : List Bool) → leading_out set 0 after ≡ Some triggered → more ≡ united_from 0 triggered set
    → LeadsTo after start set → LeadsTo after start more
goes_on after start set triggered more one is h =
    let count : length more ≡ length set = ap length is ∙ same_length triggered set in
    ap (λ n. closure n after more) count ∙ ap (closure (length set) after) is ∙ sym (closure_more after set triggered one) ∙ h

pub ends : (after : List (List Bool)) (start set : List Bool) → leading_out set 0 after ≡ None → LeadsTo after start set → set ≡ closure (length start) after start
ends after start set none h = sym (closure_ends after (length set) set none) ∙ h

-- from some units, and then from others
pub gathered_append : (of_unit : Unit → List ℕ) (us vs : List Unit) (set : List Bool) → gathered of_unit (us ++ vs) set ≡ gathered of_unit vs (gathered of_unit us set)
gathered_append of_unit [] vs set = refl
gathered_append of_unit (u ∷ us) vs set = gathered_append of_unit us vs (marked (of_unit u) set)

-- from what a function finds for each unit
pub spread_is : (library : Library) (after : List (List Bool)) (of_unit : Unit → List ℕ) (us : List Unit) (set new : List Bool) → set ≡ gathered of_unit us (no_rules library)
    → new ≡ closure (length set) after set
    → new ≡ closure (length library.rules) after (gathered of_unit us (no_rules library))
spread_is library after of_unit us set new is ends_so =
    let count : length set ≡ length library.rules = ap length is ∙ gathered_length of_unit us (no_rules library) ∙ length-map library.rules (λ (r : Rule). false) in
    ends_so ∙ ap (λ n. closure n after set) count ∙ ap (closure (length library.rules) after) is

-- it is closed, and has all of that
pub spread_closed : (library : Library) (after : List (List Bool)) (of_unit : Unit → List ℕ) (us : List Unit)
    → let set = closure (length library.rules) after (gathered of_unit us (no_rules library)) in
    (leading_out set 0 after ≡ None) × ((length set ≡ length (no_rules library)) × (is_within set (gathered of_unit us (no_rules library)) ≡ true))
spread_closed library after of_unit us =
    let start = gathered of_unit us (no_rules library) in
    let count = gathered_length of_unit us (no_rules library) in
    let few = missing_length start in
    let rules : length (no_rules library) ≡ length library.rules = length-map library.rules (λ (r : Rule). false) in
    closed_and_kept after (λ set. (length set ≡ length (no_rules library)) × (is_within set start ≡ true))
    (λ set triggered is h. (same_length triggered set ∙ h.0, begun_stays set triggered start h.1)) (length library.rules) start
    (omega (arith, few, count, rules)) (count, within_itself start)

record IsOnTheWay (library : Library) (units : List Unit) (set : List Bool) : Type 0 where
  pub count : length set ≡ length (no_rules library)
  pub begun : HasBegun library units set
  pub least : (other : List Bool) → length other ≡ length set → HasBegun library units other → IsClosedSet library other → is_within other set ≡ true

stays_on : (library : Library) (units : List Unit) (set triggered : List Bool) → leading_out set 0 (map (targets library) library.rules) ≡ Some triggered
    → IsOnTheWay library units set → IsOnTheWay library units (united_from 0 triggered set)
stays_on library units set triggered is h = record {
  count = same_length triggered set ∙ h.count;
  begun = begun_stays set triggered (begun library units (no_rules library)) h.begun;
  least = λ other e has_begun closed.
      let same = e ∙ same_length triggered set in
      least_stays other set (map (targets library) library.rules) triggered same (h.least other same has_begun closed) is closed;
}

pub reached_is_least : ReachedIsLeast
reached_is_least library units =
    let start = begun library units (no_rules library) in
    let count = gathered_length (unit_triggers library) units (no_rules library) in
    let few = missing_length start in
    let rules : length (no_rules library) ≡ length library.rules = length-map library.rules (λ (r : Rule). false) in
    let end = closed_and_kept (map (targets library) library.rules) (IsOnTheWay library units) (stays_on library units) (length library.rules) start (omega (arith, few, count, rules))
    (record { count = count; begun = within_itself start; least = λ other e has_begun closed. has_begun }) in
    record { count = end.1.count; begun = end.1.begun; closed = end.0; least = end.1.least }

pub unreached_never_fire : UnreachedNeverFire
unreached_never_fire library units =
    let set = reached library units in
    let h = reached_is_least library units in
    never library set h.count h.closed units
    (and_parts (list_all (λ u. list_all (has set) (unit_triggers library u)) units) (is_within set (no_rules library))
    (sym (gathered_each library set h.count (unit_triggers library) units (no_rules library) h.count) ∙ h.begun)).0
