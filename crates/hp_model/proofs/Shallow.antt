-- Where each chain of firings is short enough, none nests too deep, and a cascade has few generations.
use Rattle.std.proofs.Common.{arith, ◌≡◌, refl, subst, ℕ, zero, suc, ◌+◌, ◌*◌, ◌-◌, ◌<◌, ◌≤◌, List, [], ◌∷◌, length, None, Bool, ◌&&◌, IsTrue, nat_lt}
use Rattle.std.proofs.lemmas.Bool.{and_parts, and_from}
use Rattle.std.specs.List.{AllByRecursion, list_all, slice_index_or}
use Rattle.hp_model.specs.Rules.{Rule, no_rule, Library, rule_at}
use Rattle.hp_model.specs.State.{State, initial_state}
use Rattle.hp_model.specs.Tree.{Task, Node, sub_node, fire_node, act_node}
use Rattle.hp_model.specs.Transactions.{End, done, abort_by, veto_by, Course, closed_by, detached_of}
use Rattle.hp_model.specs.Cascade.{Unit, now_in, unit_work, top, Transaction, alone, generation, due, cascade, run_unit, most_rounds, transactions_of, run_units}
use Rattle.hp_model.specs.Chains.{rule_triggers, unit_triggers, rule_within, unit_within, NotTooDeep, ChainsBound, BoundsEachUnit, BoundsEachScript, BoundsGrow, NeverTooDeep}
use Rattle.hp_model.specs.Endings.{everywhere, EndsOnlyBy, NodeHasOnly, TreeHasOnly, TransactionsHaveOnly, ReportHasOnly}
use Rattle.hp_model.proofs.Endings.{only_append, only_detachments, reports_only}
use Rattle.hp_model.proofs.Guarded.{rank}
use Rattle.hp_model.proofs.Guarded.{Guard, IsAllowed, IsNodeAllowed, IsPlainEnd, KeptBy, Passes}
use Rattle.hp_model.proofs.GuardedTops.{rank_small, AreDue, due_new, unit_leaves, generation_leaves, unit_each}

-- ---- trees

-- a course that has ended, and all ends in its tree
abbrev Shallow : ℕ → State → Course → Type 0
Shallow n S c = IsPlainEnd c.end × TreeHasOnly (everywhere NotTooDeep) c.items

closed_shallow : (e : End) (S : State) (c : Course) → IsPlainEnd e → TreeHasOnly (everywhere NotTooDeep) c.items
    → EndsOnlyBy NotTooDeep (closed_by e S c).ending × TreeHasOnly (everywhere NotTooDeep) (closed_by e S c).items
closed_shallow done S c h k = (tt, k)
closed_shallow (abort_by x) S c h k = (h, k)
closed_shallow (veto_by r) S c h k = (tt, k)

-- ---- chains

-- a rule fires at a depth if the chains that begin with it are short enough
abbrev pub may_fire : Library → (most : ℕ) → ℕ → ℕ → Bool
may_fire library most d n = rule_within library (suc most - d) (rule_at library n)

shorter : (library : Library) (k j : ℕ) (rule : Rule) → j ≡ k - 1 → IsTrue (rule_within library k rule)
    → IsTrue (list_all (λ n. rule_within library j (rule_at library n)) (rule_triggers library rule))
shorter library zero j rule e h = cc
shorter library (suc k) j rule e h =
    let same : k ≡ j = omega (arith, e) in
    subst (λ m. IsTrue (list_all (λ n. rule_within library m (rule_at library n)) (rule_triggers library rule))) same h

pub guarding : (library : Library) (most : ℕ) → Guard library (may_fire library most)
guarding library most = record {
  follows = λ d n h. shorter library (suc most - d) (suc most - suc d) (rule_at library n) (omega arith) h;
}

none_within : (library : Library) (k : ℕ) (rule : Rule) → k ≡ 0 → IsTrue (rule_within library k rule) → ⊥
none_within library zero rule e h = cc
none_within library (suc k) rule e h = absurd (omega (arith, e))

-- a task that may fire isn't deeper than its chain
depth_by : (library : Library) (most : ℕ) (t : Task) (k : ℕ) → k ≡ suc most - t.depth → IsTrue (rule_within library k (rule_at library t.rule)) → t.depth ≤ most
depth_by library most t zero e h = absurd (none_within library 0 (rule_at library t.rule) refl h)
depth_by library most t (suc k) e h = omega (arith, e)

pub depth_bound : (library : Library) (most : ℕ) (t : Task) → IsAllowed library (may_fire library most) t → t.depth ≤ most
depth_bound library most t ok = depth_by library most t (suc most - t.depth) refl ok.0

node_shallow : (library : Library) (most : ℕ) (what : Node) → IsNodeAllowed (may_fire library most) what → NodeHasOnly (everywhere NotTooDeep) what
node_shallow library most sub_node h = tt
node_shallow library most (fire_node rule place condition) h = h.0
node_shallow library most (act_node rule place) h = tt

module _ (library : Library) (most : ℕ) (few : most ≤ library.depth_limit) where
  abbrev limit : ℕ
  limit = library.depth_limit

  abbrev May : Task → Type 0
  May = IsAllowed library (may_fire library most)

  shallow : KeptBy library (may_fire library most) limit Shallow
  shallow = record {
    at_end = λ n S e plain. (plain, tt);
    at_limit = λ n S t deep ok. absurd (let low = depth_bound library most t ok in omega (arith, low, deep, few));
    at_join = λ n S c d h k. (k.0, only_append (everywhere NotTooDeep) c.items d.items h.1 k.1);
    at_emission = λ n S v. (tt, tt);
    at_operation = λ n S op. (tt, tt);
    at_rule = λ n S op m r. (tt, tt);
    at_signal = λ n S p c h. h;
    at_tasks = λ n S ts h. (tt, only_detachments (everywhere NotTooDeep) (detached_of ts));
    at_node = λ n S c what e may plain h. (plain, (let k = closed_shallow c.end S c h.0 h.1 in ((node_shallow library most what may, k.0), k.1), tt));
    at_drain = λ n S c h. (tt, h.1);
    at_ending = λ n S c e plain h. (plain, h.1);
    at_lower = λ m n S c low h. h;
  }

  abbrev guard : Guard library (may_fire library most)
  guard = guarding library most

  pub rank_bound : (t : Task) → May t → rank t ≤ 2 * most + 1
  rank_bound t ok = let low = depth_bound library most t ok in let small = rank_small t in omega (arith, low, small)

  -- each generation has a task of a rank that the one before lacks
  cascade_few : (n m : ℕ) (ts : List Task) (S : State) → m ≤ 2 * most + 1 → AreDue limit May m ts → m + length (cascade n library ts S).generations ≤ 2 * most + 1
  cascade_few zero m ts S low h = omega (arith, low)
  cascade_few (suc n) m [] S low h = omega (arith, low)
  cascade_few (suc n) m (t ∷ ts) S low h =
      let g = generation library (t ∷ ts) S in
      let above : m < rank t = h.0.0.0.0 in
      let bound = rank_bound t h.0.0.1 in
      let count : suc m + length (cascade n library (due g.detached) g.state).generations ≤ 2 * most + 1 =
      cascade_few n (suc m) (due g.detached) g.state (omega (arith, above, bound)) (due_new limit May (suc m) g.detached (generation_leaves library (may_fire library most) guard m (t ∷ ts) S h)) in
      omega (arith, count)

  pub unit_passes : (u : Unit) → IsTrue (unit_within library most u) → Passes (may_fire library most) 1 (unit_triggers library u)
  unit_passes u h = let same : most ≡ suc most - 1 = omega arith in subst (λ k. IsTrue (list_all (λ n. rule_within library k (rule_at library n)) (unit_triggers library u))) same h

  unit_shallow : (u : Unit) → IsTrue (unit_within library most u) → (S : State) → TransactionsHaveOnly (everywhere NotTooDeep) (transactions_of (run_unit library u S))
      × (length (run_unit library u S).generations ≤ 2 * most + 1)
  unit_shallow u ok S =
      let first = alone None (top library (now_in u) 0 (unit_work library u) S) in
      let left = unit_leaves library (may_fire library most) guard u S (unit_passes u ok) in
      let count : 1 + length (cascade (most_rounds library) library (due first.detached) first.state).generations ≤ 2 * most + 1 =
      cascade_few (most_rounds library) 1 (due first.detached) first.state (omega arith) (due_new limit May 1 first.detached left) in (
        unit_each library (may_fire library most) guard Shallow shallow (λ (t : Transaction). EndsOnlyBy NotTooDeep t.ending × TreeHasOnly (everywhere NotTooDeep) t.items)
            (λ S c h. closed_shallow c.end S c h.0 h.1) (λ t may S c h. closed_shallow c.end S c h.0 h.1) u S (unit_passes u ok),
        omega (arith, count),
      )

pub chains_bound : ChainsBound
chains_bound library most few u ok S = unit_shallow library most few u ok S

-- ---- libraries

each_rule : (test : Rule → Bool) (rules : List Rule) (n : ℕ) → IsTrue (test no_rule) → IsTrue (list_all test rules) → IsTrue (test (slice_index_or rules n no_rule))
each_rule test [] n none h = none
each_rule test (r ∷ rs) zero none h = (and_parts (test r) (list_all test rs) h).0
each_rule test (r ∷ rs) (suc n) none h = each_rule test rs n none (and_parts (test r) (list_all test rs) h).1

-- a rule that the library lacks triggers nothing
lacking : (library : Library) (most : ℕ) → IsTrue (nat_lt 0 most) → IsTrue (rule_within library most no_rule)
lacking library zero h = cc
lacking library (suc most) h = refl

every_number : (test : ℕ → Bool) (ns : List ℕ) → ((n : ℕ) → IsTrue (test n)) → IsTrue (list_all test ns)
every_number test [] h = refl
every_number test (n ∷ ns) h = (λ i. h n i && every_number test ns h i)

pub bounds_each_unit : BoundsEachUnit
bounds_each_unit library most h u =
    let parts = and_parts (nat_lt 0 most) (list_all (rule_within library most) library.rules) h in
    every_number (λ n. rule_within library most (rule_at library n)) (unit_triggers library u)
    (λ n. each_rule (rule_within library most) library.rules n (lacking library most parts.0) parts.1)

-- ---- bounds grow

every_more : (p q : ℕ → Bool) → ((n : ℕ) → IsTrue (p n) → IsTrue (q n)) → (ns : List ℕ) → IsTrue (list_all p ns) → IsTrue (list_all q ns)
every_more p q next [] h = refl
every_more p q next (n ∷ ns) h = let parts = and_parts (p n) (list_all p ns) h in and_from (q n) (list_all q ns) (next n parts.0) (every_more p q next ns parts.1)

pub bounds_grow : BoundsGrow
bounds_grow library zero rule h = cc
bounds_grow library (suc most) rule h =
    every_more (λ n. rule_within library most (rule_at library n)) (λ n. rule_within library (suc most) (rule_at library n)) (λ n k. bounds_grow library most (rule_at library n) k)
    (rule_triggers library rule) h

-- ---- reports

pub bounds_each_script : BoundsEachScript
bounds_each_script library most h [] = refl
bounds_each_script library most h (u ∷ us) =
    and_from (unit_within library most u) (list_all (unit_within library most) us) (bounds_each_unit library most h u) (bounds_each_script library most h us)

units_shallow : (library : Library) (us : List Unit) (S : State) → IsTrue (list_all (unit_within library library.depth_limit) us)
    → AllByRecursion (ReportHasOnly (everywhere NotTooDeep)) (run_units library us S).units
units_shallow library [] S h = tt
units_shallow library (u ∷ us) S h =
    let parts = and_parts (unit_within library library.depth_limit u) (list_all (unit_within library library.depth_limit) us) h in (
      reports_only (everywhere NotTooDeep) (transactions_of (run_unit library u S)) (chains_bound library library.depth_limit (omega arith) u parts.0 S).0,
      units_shallow library us (run_unit library u S).state parts.1,
    )

pub never_too_deep : NeverTooDeep
never_too_deep script safe = units_shallow script.library script.units (initial_state script.library) safe
