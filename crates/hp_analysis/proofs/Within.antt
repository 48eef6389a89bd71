-- Tables of chains: what a set of rules passes is what the rules that it was made from pass.
use Rattle.std.proofs.Common.{arith, ◌≡◌, refl, sym, ap, ap₂, ◌∙◌, subst, ℕ, zero, suc, ◌+◌, ◌<◌, ◌≤◌, List, [], ◌∷◌, length, map, Bool, true, false, ◌&&◌, nat_lt, Option, Some, None, length-set}
use Rattle.std.specs.Prelude.{if◌then◌else◌, slice_set, not, is_none}
use Rattle.std.specs.List.{list_all, slice_index_or}
use Rattle.std.proofs.lemmas.Bool.{lt-ltb, ltb-true, ltb-false, and_parts}
use Rattle.std.proofs.lemmas.List.{length-map, get_or_past}
use Rattle.hp_model.specs.Rules.{Rule, no_rule, Library, rule_at}
use Rattle.hp_model.specs.Cascade.{Unit}
use Rattle.hp_model.specs.Chains.{rule_triggers, unit_triggers, rule_within, unit_within, library_within, script_within}
use Rattle.hp_analysis.specs.Sets.{marked, no_rules, targets, begun, outside_from, is_within}
use Rattle.hp_analysis.specs.Reached.{has}
use Rattle.hp_analysis.specs.Tables.{within, IsLeast, script}

-- ---- a set within another one

first_set : (m h : Bool) (k : ℕ) (rest : Option ℕ) → is_none (if (true && not h) then Some k else rest) ≡ (h && is_none (if (m && not h) then Some k else rest))
first_set true true k rest = refl
first_set false true k rest = refl
first_set true false k rest = refl
first_set false false k rest = refl

later_set : (b h : Bool) (k : ℕ) (r s : Option ℕ) → is_none r ≡ (h && is_none s) → is_none (if b then Some k else r) ≡ (h && is_none (if b then Some k else s))
later_set true true k r s e = refl
later_set true false k r s e = refl
later_set false h k r s e = e

past : (other : List Bool) (n : ℕ) → length other ≤ n → true ≡ (has other n && true)
past other n low = ap (λ b. b && true) (sym (get_or_past other n true low))

-- one more rule in the set, of which the first is numbered k
pub within_set : (other set : List Bool) (k n : ℕ) → length other ≡ k + length set → is_none (outside_from other k (slice_set set n true)) ≡ (has other (k + n) && is_none (outside_from other k set))
within_set other [] k zero e = past other (k + 0) (omega (arith, e))
within_set other [] k (suc n) e = past other (k + suc n) (omega (arith, e))
within_set other (m ∷ set) k zero e =
    let same : k ≡ k + 0 = omega arith in
    first_set m (has other k) k (outside_from other (suc k) set) ∙ ap (λ j. has other j && is_none (outside_from other k (m ∷ set))) same
within_set other (m ∷ set) k (suc n) e =
    let same : suc k + n ≡ k + suc n = omega arith in
    let shorter : length other ≡ suc k + length set = omega (arith, e) in
    later_set (m && not (has other k)) (has other (k + suc n)) k (outside_from other (suc k) (slice_set set n true)) (outside_from other (suc k) set)
    (within_set other set (suc k) n shorter ∙ ap (λ j. has other j && is_none (outside_from other (suc k) set)) same)

pub swap_and : (a b c : Bool) → (a && (b && c)) ≡ ((b && a) && c)
swap_and true b c = cases b
  where
    cases : (b : Bool) → (b && c) ≡ ((b && true) && c)
    cases true = refl
    cases false = refl
swap_and false true c = refl
swap_and false false c = refl

pub within_marked : (other : List Bool) (ns : List ℕ) (set : List Bool) → length other ≡ length set → is_within other (marked ns set) ≡ (list_all (has other) ns && is_within other set)
within_marked other [] set e = refl
within_marked other (n ∷ ns) set e =
    let zero-n : 0 + n ≡ n = omega arith in
    let same : length other ≡ 0 + length set = omega (arith, e) in
    let kept : length other ≡ length (slice_set set n true) = e ∙ sym (length-set set n true) in
    within_marked other ns (slice_set set n true) kept
    ∙ ap (λ b. list_all (has other) ns && b) (within_set other set 0 n same ∙ ap (λ j. has other j && is_within other set) zero-n)
    ∙ swap_and (list_all (has other) ns) (has other n) (is_within other set)

pub none_within : (other : List Bool) (k : ℕ) (rules : List Rule) → is_none (outside_from other k (map (λ r. false) rules)) ≡ true
none_within other k [] = refl
none_within other k (r ∷ rs) = none_within other (suc k) rs

-- all rules within a table of all rules
all_from : (other : List Bool) (k : ℕ) (f : Rule → Bool) (rules : List Rule) → ((i : ℕ) → has other (k + i) ≡ has (map f rules) i)
    → is_none (outside_from other k (map (λ r. true) rules)) ≡ list_all f rules
all_from other k f [] same = refl
all_from other k f (r ∷ rs) same =
    let start : k ≡ k + 0 = omega arith in
    let later : (i : ℕ) → suc k + i ≡ k + suc i = λ i. omega arith in
    one (has other k) (f r) (outside_from other (suc k) (map (λ r. true) rs)) (list_all f rs) (ap (has other) start ∙ same 0)
    (all_from other (suc k) f rs (λ i. ap (has other) (later i) ∙ same (suc i)))
  where
    one : (h b : Bool) (rest : Option ℕ) (all : Bool) → h ≡ b → is_none rest ≡ all → is_none (if (true && not h) then Some k else rest) ≡ (b && all)
    one true b rest all e i = i ∙ ap (λ x. x && all) e
    one false b rest all e i = ap (λ x. x && all) e

-- ---- tables

-- all triggers of the rule are rules of the library
abbrev pub knows_targets : Library → Rule → Bool
knows_targets library rule = list_all (λ n. nat_lt n (length library.rules)) (rule_triggers library rule)

entry_at : (f : Rule → Bool) (rules : List Rule) (n : ℕ) → slice_index_or (map f rules) n (f no_rule) ≡ f (slice_index_or rules n no_rule)
entry_at f [] n = refl
entry_at f (r ∷ rs) zero = refl
entry_at f (r ∷ rs) (suc n) = entry_at f rs n

list_all-same : (p q : ℕ → Bool) → ((n : ℕ) → p n ≡ q n) → (ns : List ℕ) → list_all p ns ≡ list_all q ns
list_all-same p q same [] = refl
list_all-same p q same (n ∷ ns) = ap₂ (λ a b. a && b) (same n) (list_all-same p q same ns)

-- each test of a table of at least one firing
some_table : (library : Library) (k : ℕ) (ns : List ℕ) → list_all (has (within library (suc k))) ns ≡ list_all (λ n. rule_within library (suc k) (rule_at library n)) ns
some_table library k ns = list_all-same (has (within library (suc k))) (λ n. rule_within library (suc k) (rule_at library n)) (λ n. entry_at (rule_within library (suc k)) library.rules n) ns

none_known : (rules : List Rule) (n : ℕ) → nat_lt n (length rules) ≡ true → slice_index_or (map (λ r. false) rules) n true ≡ false
none_known [] n low = let none : n < 0 = ltb-true n 0 low in absurd (omega (arith, none))
none_known (r ∷ rs) zero low = refl
none_known (r ∷ rs) (suc n) low = let within : suc n < length (r ∷ rs) = ltb-true (suc n) (length (r ∷ rs)) low in none_known rs n (lt-ltb n (length rs) (omega (arith, within)))

no_table : (library : Library) (ns : List ℕ) → list_all (λ n. nat_lt n (length library.rules)) ns ≡ true
    → list_all (has (within library 0)) ns ≡ list_all (λ n. rule_within library 0 (rule_at library n)) ns
no_table library [] known = refl
no_table library (n ∷ ns) known = first (nat_lt n (length library.rules)) (list_all (λ m. nat_lt m (length library.rules)) ns) known refl
  where
    first : (b rest : Bool) → (b && rest) ≡ true → nat_lt n (length library.rules) ≡ b → list_all (has (within library 0)) (n ∷ ns) ≡ false
    first true rest e is = ap (λ b. b && list_all (has (within library 0)) ns) (none_known library.rules n is)
    first false rest e is = cc

any_table : (library : Library) (k : ℕ) (ns : List ℕ) → list_all (λ n. nat_lt n (length library.rules)) ns ≡ true
    → list_all (has (within library k)) ns ≡ list_all (λ n. rule_within library k (rule_at library n)) ns
any_table library zero ns known = no_table library ns known
any_table library (suc k) ns known = some_table library k ns

table_length : (library : Library) (k : ℕ) → length (within library k) ≡ length (no_rules library)
table_length library k = length-map library.rules (rule_within library k) ∙ sym (length-map library.rules (λ (r : Rule). false))

and_true : (b : Bool) → (b && true) ≡ b
and_true true = refl
and_true false = refl

-- the rules that a list of numbers makes a set of
pub of_numbers : (library : Library) (k : ℕ) (ns : List ℕ) → is_within (within library k) (marked ns (no_rules library)) ≡ list_all (has (within library k)) ns
of_numbers library k ns =
    within_marked (within library k) ns (no_rules library) (table_length library k)
    ∙ ap (λ b. list_all (has (within library k)) ns && b) (none_within (within library k) 0 library.rules) ∙ and_true (list_all (has (within library k)) ns)

pub rule_next : (library : Library) (k : ℕ) (rule : Rule) → knows_targets library rule ≡ true → is_within (within library k) (targets library rule) ≡ rule_within library (suc k) rule
rule_next library k rule known = of_numbers library k (rule_triggers library rule) ∙ any_table library k (rule_triggers library rule) known

rules_next : (library : Library) (k : ℕ) (rules : List Rule) → list_all (knows_targets library) rules ≡ true
    → map (λ set. is_within (within library k) set) (map (targets library) rules) ≡ map (rule_within library (suc k)) rules
rules_next library k [] known = refl
rules_next library k (r ∷ rs) known =
    let parts = and_parts (knows_targets library r) (list_all (knows_targets library) rs) known in
    ap₂ (λ x xs. x ∷ xs) (rule_next library k r parts.0) (rules_next library k rs parts.1)

-- a table leads to that of one more firing
pub table_next : (library : Library) (k j : ℕ) → suc k ≡ j → list_all (knows_targets library) library.rules ≡ true
    → map (λ set. is_within (within library k) set) (map (targets library) library.rules) ≡ within library j
table_next library k j next known = rules_next library k library.rules known ∙ ap (within library) next

-- ---- all rules, and the rules of units

pub all_passes : (library : Library) (k : ℕ) → (nat_lt 0 k && is_within (within library k) (map (λ r. true) library.rules)) ≡ library_within library k
all_passes library k = ap (λ b. nat_lt 0 k && b) (all_from (within library k) 0 (rule_within library k) library.rules (λ i. let same : 0 + i ≡ i = omega arith in ap (has (within library k)) same))

pub marked_length : (ns : List ℕ) (set : List Bool) → length (marked ns set) ≡ length set
marked_length [] set = refl
marked_length (n ∷ ns) set = marked_length ns (slice_set set n true) ∙ length-set set n true

begun_within : (library : Library) (k : ℕ) (us : List Unit) (set : List Bool) → length (within library (suc k)) ≡ length set
    → is_within (within library (suc k)) (begun library us set) ≡ (list_all (unit_within library (suc k)) us && is_within (within library (suc k)) set)
begun_within library k [] set e = refl
begun_within library k (u ∷ us) set e =
    begun_within library k us (marked (unit_triggers library u) set) (e ∙ sym (marked_length (unit_triggers library u) set))
    ∙ ap (λ b. list_all (unit_within library (suc k)) us && b)
    (within_marked (within library (suc k)) (unit_triggers library u) set e ∙ ap (λ b. b && is_within (within library (suc k)) set) (some_table library k (unit_triggers library u)))
    ∙ swap_and (list_all (unit_within library (suc k)) us) (unit_within library (suc k) u) (is_within (within library (suc k)) set)

pub begun_passes : (library : Library) (us : List Unit) (k : ℕ)
    → (nat_lt 0 k && is_within (within library k) (begun library us (no_rules library))) ≡ (nat_lt 0 k && script_within k (script library us))
begun_passes library us zero = refl
begun_passes library us (suc k) =
    ap (λ b. nat_lt 0 (suc k) && b)
    (begun_within library k us (no_rules library) (table_length library (suc k))
    ∙ ap (λ b. list_all (unit_within library (suc k)) us && b) (none_within (within library (suc k)) 0 library.rules) ∙ and_true (list_all (unit_within library (suc k)) us))

-- the least number of tests that are alike
pub least_same : (p q : ℕ → Bool) (most : ℕ) (found : Option ℕ) → ((k : ℕ) → p k ≡ q k) → IsLeast p most found → IsLeast q most found
least_same p q most found same h = let tests : p ≡ q = λ i k. same k i in subst (λ t. IsLeast t most found) tests h

-- sets behind another layer
pub each_of : {A : Type 0} (items : A → List Bool) (table : List Bool) (sets : List A) → map (λ s. is_within table (items s)) sets ≡ map (λ set. is_within table set) (map items sets)
each_of items table [] = refl
each_of items table (s ∷ ss) = ap (λ xs. is_within table (items s) ∷ xs) (each_of items table ss)

-- ---- the search for the least number

pub least_begins : (test : ℕ → Bool) → test 0 ≡ false → (j : ℕ) → j ≤ 0 → test j ≡ false
least_begins test none j low = let same : 0 ≡ j = omega (arith, low) in subst (λ i. test i ≡ false) same none

pub least_goes_on : (test : ℕ → Bool) (k m : ℕ) → m ≡ k + 1 → ((j : ℕ) → j ≤ k → test j ≡ false) → test m ≡ false → (j : ℕ) → j ≤ m → test j ≡ false
least_goes_on test k m e h last j low = by (nat_lt k j) refl
  where
    by : (b : Bool) → nat_lt k j ≡ b → test j ≡ false
    by true is = let above = ltb-true k j is in let same : m ≡ j = omega (arith, e, low, above) in subst (λ i. test i ≡ false) same last
    by false is = h j (ltb-false k j is)

pub least_found : (test : ℕ → Bool) (k m most : ℕ) → m ≡ k + 1 → m ≤ most → ((j : ℕ) → j ≤ k → test j ≡ false) → test m ≡ true → IsLeast test most (Some m)
least_found test k m most e low h is = ((low, is), λ j below. h j (omega (arith, e, below)))

pub none_least : (test : ℕ → Bool) (k most : ℕ) → k ≡ most → ((j : ℕ) → j ≤ k → test j ≡ false) → IsLeast test most None
none_least test k most e h j low = h j (omega (arith, e, low))

-- the test of a number above 0
pub tested : (b : Bool) (k m : ℕ) → m ≡ k + 1 → (nat_lt 0 m && b) ≡ b
tested b k m e = let some : 0 < m = omega (arith, e) in ap (λ a. a && b) (lt-ltb 0 m some)
