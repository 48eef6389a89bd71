-- A chain that is given as a reason is a path of the triggering graph.
use Rattle.std.proofs.Common.{arith, ◌≡◌, refl, sym, ap, ◌∙◌, subst, ℕ, zero, suc, ◌+◌, ◌<◌, ◌≤◌, ◌==◌, List, [], ◌∷◌, length, map, Bool, true, false, ◌&&◌, Option, Some, None, IsTrue, eq-eqb}
use Rattle.std.proofs.lemmas.Bool.{and_parts, eqb-true}
use Rattle.std.specs.Prelude.{if◌then◌else◌, slice_set, not, is_none, ◌||◌}
use Rattle.std.specs.List.{list_all, list_any, slice_index_or}
use Rattle.std.specs.Option.{option_map_or}
use Rattle.hp_model.specs.Rules.{Rule, no_rule, Library, rule_at}
use Rattle.hp_model.specs.Chains.{rule_triggers, rule_within}
use Rattle.hp_analysis.specs.Sets.{marked, no_rules, targets, outside_from, is_within}
use Rattle.hp_analysis.specs.Reached.{has}
use Rattle.hp_analysis.specs.Tables.{within}
use Rattle.hp_analysis.specs.Witness.{chain_from, IsPath, IsPathOf, ChainIsPath, ChainIsPathAmong}
use Rattle.hp_analysis.specs.Installed.{with_only}
use Rattle.hp_analysis.proofs.Within.{knows_targets, rule_next}
use Rattle.hp_analysis.proofs.Known.{targets_known, only_known}

-- ---- the rules of a set

abbrev is_member : List Bool → ℕ → Bool
is_member set n = slice_index_or set n false

abbrev is_among : List ℕ → ℕ → Bool
is_among ns m = list_any (λ t. t == m) ns

added : (set : List Bool) (n m : ℕ) → is_member (slice_set set n true) m ≡ true → ((n == m) || is_member set m) ≡ true
added [] zero m h = ap (λ b. (0 == m) || b) h ∙ last (0 == m)
  where
    last : (b : Bool) → (b || true) ≡ true
    last true = refl
    last false = refl
added [] (suc n) m h = ap (λ b. (suc n == m) || b) h ∙ last (suc n == m)
  where
    last : (b : Bool) → (b || true) ≡ true
    last true = refl
    last false = refl
added (s ∷ set) zero zero h = refl
added (s ∷ set) zero (suc m) h = ap (λ b. (0 == suc m) || b) h ∙ last (0 == suc m)
  where
    last : (b : Bool) → (b || true) ≡ true
    last true = refl
    last false = refl
added (s ∷ set) (suc n) zero h = ap (λ b. (suc n == 0) || b) h ∙ last (suc n == 0)
  where
    last : (b : Bool) → (b || true) ≡ true
    last true = refl
    last false = refl
added (s ∷ set) (suc n) (suc m) h = by (n == m) refl (added set n m h)
  where
    rest : (b : Bool) → is_member set m ≡ true → (b || is_member set m) ≡ true
    rest true e = refl
    rest false e = e

    by : (b : Bool) → (n == m) ≡ b → ((n == m) || is_member set m) ≡ true → ((suc n == suc m) || is_member set m) ≡ true
    by true is e = let same : n ≡ m = eqb-true n m is in ap (λ b. b || is_member set m) (eq-eqb (suc n) (suc m) (ap suc same))
    by false is e = rest (suc n == suc m) (sym (ap (λ b. b || is_member set m) is) ∙ e)

none_member : (rules : List Rule) (m : ℕ) → is_member (map (λ r. false) rules) m ≡ false
none_member [] m = refl
none_member (r ∷ rs) zero = refl
none_member (r ∷ rs) (suc m) = none_member rs m

among : (ns : List ℕ) (set : List Bool) (m : ℕ) → is_member (marked ns set) m ≡ true → (is_among ns m || is_member set m) ≡ true
among [] set m h = h
among (n ∷ ns) set m h = by (n == m) (is_among ns m) (is_member (slice_set set n true) m) refl refl (among ns (slice_set set n true) m h)
  where
    by : (a b c : Bool) → (n == m) ≡ a → is_member (slice_set set n true) m ≡ c → (b || c) ≡ true → ((a || b) || is_member set m) ≡ true
    by true b c is_a is_c e = refl
    by false true c is_a is_c e = refl
    by false false true is_a is_c e = sym (ap (λ a. a || is_member set m) is_a) ∙ added set n m is_c
    by false false false is_a is_c e = cc

-- ---- the first rule outside another set

record IsOutside (other : List Bool) (k : ℕ) (set : List Bool) (m : ℕ) : Type 0 where
  pub offset : ℕ
  pub at : k + offset ≡ m
  pub member : is_member set offset ≡ true
  pub outside : has other m ≡ false

outside : (other : List Bool) (k : ℕ) (set : List Bool) (m : ℕ) → outside_from other k set ≡ Some m → IsOutside other k set m
outside other k [] m e = cc
outside other k (s ∷ set) m e = by s (has other k) refl refl e (λ h. next (outside other (suc k) set m h))
  where
    next : IsOutside other (suc k) set m → IsOutside other k (s ∷ set) m
    next h = let at = h.at in record { offset = suc h.offset; at = omega (arith, at); member = h.member; outside = h.outside }

    by : (a b : Bool) → s ≡ a → has other k ≡ b → (if (a && not b) then Some k else outside_from other (suc k) set) ≡ Some m
        → (outside_from other (suc k) set ≡ Some m → IsOutside other k (s ∷ set) m) → IsOutside other k (s ∷ set) m
    by true true is_a is_b h later = later h
    by true false is_a is_b h later = let same : k ≡ m = cc in record { offset = 0; at = omega (arith, same); member = is_a; outside = subst (λ i. has other i ≡ false) same is_b }
    by false b is_a is_b h later = later h

-- ---- chains

-- a rule that a table lacks begins a chain of more firings
lacks : (f : Rule → Bool) (rules : List Rule) (m : ℕ) → has (map f rules) m ≡ false → f (slice_index_or rules m no_rule) ≡ false
lacks f [] m h = cc
lacks f (r ∷ rs) zero h = h
lacks f (r ∷ rs) (suc m) h = lacks f rs m h

known_at : (library : Library) (rules : List Rule) (n : ℕ) → list_all (knows_targets library) rules ≡ true → knows_targets library (slice_index_or rules n no_rule) ≡ true
known_at library [] n h = refl
known_at library (r ∷ rs) zero h = (and_parts (knows_targets library r) (list_all (knows_targets library) rs) h).0
known_at library (r ∷ rs) (suc n) h = known_at library rs n (and_parts (knows_targets library r) (list_all (knows_targets library) rs) h).1

module _ (library : Library) (known : list_all (knows_targets library) library.rules ≡ true) where
  -- a rule that it may trigger, from which the rest of the chain goes on
  record IsNext (more n m : ℕ) : Type 0 where
    pub edge : is_among (rule_triggers library (rule_at library n)) m ≡ true
    pub goes_on : rule_within library more (rule_at library m) ≡ false

  next_is : (more n m : ℕ) → outside_from (within library more) 0 (targets library (rule_at library n)) ≡ Some m → IsNext more n m
  next_is more n m e =
      let found = outside (within library more) 0 (targets library (rule_at library n)) m e in
      let at = found.at in
      let same : found.offset ≡ m = omega (arith, at) in
      let member : is_member (targets library (rule_at library n)) m ≡ true = subst (λ i. is_member (targets library (rule_at library n)) i ≡ true) same found.member in
      record {
        edge = plain (is_among (rule_triggers library (rule_at library n)) m) (sym (ap (λ b. is_among (rule_triggers library (rule_at library n)) m || b) (none_member library.rules m))
            ∙ among (rule_triggers library (rule_at library n)) (no_rules library) m member);
        goes_on = lacks (rule_within library more) library.rules m found.outside;
      }
    where
      plain : (b : Bool) → (b || false) ≡ true → b ≡ true
      plain true h = refl
      plain false h = cc

  is_path : (more n : ℕ) → rule_within library more (rule_at library n) ≡ false → IsPathOf library (chain_from library more n) × (length (chain_from library more n) ≡ more + 1)
  is_path zero n h = (tt, refl)
  is_path (suc more) n h =
      by (outside_from (within library more) 0 (targets library (rule_at library n))) refl
      (λ m e. let next = next_is more n m e in (next.edge, is_path more m next.goes_on))
    where
      stuck : is_within (within library more) (targets library (rule_at library n)) ≡ false
      stuck = rule_next library more (rule_at library n) (known_at library library.rules n known) ∙ h

      joined : (m : ℕ) (edge : is_among (rule_triggers library (rule_at library n)) m ≡ true) (more' : ℕ) → IsPathOf library (chain_from library more' m)
          → IsPath library n (chain_from library more' m)
      joined m edge zero path = (edge, tt)
      joined m edge (suc more') path = (edge, path)

      by : (o : Option ℕ) → outside_from (within library more) 0 (targets library (rule_at library n)) ≡ o
          → ((m : ℕ) → outside_from (within library more) 0 (targets library (rule_at library n)) ≡ Some m
          → IsTrue (is_among (rule_triggers library (rule_at library n)) m) × (IsPathOf library (chain_from library more m) × (length (chain_from library more m) ≡ more + 1)))
          → IsPathOf library (n ∷ option_map_or (chain_from library more) o []) × (length (n ∷ option_map_or (chain_from library more) o []) ≡ suc more + 1)
      by None is next = let never : true ≡ false = sym (ap is_none is) ∙ stuck in cc
      by (Some m) is next =
          let found = next m is in
          let count = found.1.1 in
          (joined m found.0 more found.1.0, omega (arith, count))

pub chain_is_path : ChainIsPath
chain_is_path library checked more n h = is_path library (targets_known library checked) more n h

pub chain_is_path_among : ChainIsPathAmong
chain_is_path_among library set checked more n h = is_path (with_only set library) (only_known library set checked) more n h

-- ---- steps of the program

pub chain_step : (library : Library) (more less n : ℕ) → more ≡ suc less
    → chain_from library more n ≡ n ∷ option_map_or (chain_from library less) (outside_from (within library less) 0 (targets library (rule_at library n))) []
chain_step library more less n e = ap (λ k. chain_from library k n) e

pub chain_end : (library : Library) (more n : ℕ) → more ≡ 0 → chain_from library more n ≡ n ∷ []
chain_end library more n e = ap (λ k. chain_from library k n) e

no_member_outside : (other : List Bool) (k : ℕ) (rules : List Rule) → outside_from other k (map (λ r. false) rules) ≡ None
no_member_outside other k [] = refl
no_member_outside other k (r ∷ rs) = no_member_outside other (suc k) rs

-- the entry of a rule in the graph, whether the library has the rule or not
pub entry_found : {A : Type 0} (items : A → List Bool) (library : Library) (after : List A) (rules : List Rule) (n : ℕ) (v : A) → map items after ≡ map (targets library) rules
    → n < length after → v ≡ slice_index_or after n v
    → items v ≡ targets library (slice_index_or rules n no_rule)
entry_found items library [] rules n v e low is = absurd (omega (arith, low))
entry_found items library (a ∷ after) [] n v e low is = cc
entry_found items library (a ∷ after) (r ∷ rs) zero v e low is =
    let first : items a ≡ targets library r = cc in
    ap items is ∙ first
entry_found items library (a ∷ after) (r ∷ rs) (suc n) v e low is =
    let rest : map items after ≡ map (targets library) rs = cc in
    entry_found items library after rs n v rest (omega (arith, low)) is

pub entry_absent : {A : Type 0} (items : A → List Bool) (library : Library) (table : List Bool) (after : List A) (rules : List Rule) (n : ℕ)
    → map items after ≡ map (targets library) rules → length after ≤ n
    → None ≡ outside_from table 0 (targets library (slice_index_or rules n no_rule))
entry_absent items library table [] [] n e high = sym (no_member_outside table 0 library.rules)
entry_absent items library table [] (r ∷ rs) n e high = cc
entry_absent items library table (a ∷ after) [] n e high = cc
entry_absent items library table (a ∷ after) (r ∷ rs) zero e high = absurd (omega (arith, high))
entry_absent items library table (a ∷ after) (r ∷ rs) (suc n) e high =
    let rest : map items after ≡ map (targets library) rs = cc in
    entry_absent items library table after rs n rest (omega (arith, high))
