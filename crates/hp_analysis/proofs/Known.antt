-- Each rule of a well-formed library triggers rules of the library only.
use Rattle.std.proofs.Common.{arith, ◌≡◌, refl, sym, subst, ℕ, pos, suc, ◌+◌, ◌<◌, List, [], ◌∷◌, ◌++◌, length, Bool, true, false, ◌&&◌, IsTrue, nat_lt}
use Rattle.std.specs.Prelude.{if◌then◌else◌, Ok}
use Rattle.std.specs.List.{list_all}
use Rattle.std.proofs.lemmas.Bool.{and_parts, and_from, lt-ltb}
use Rattle.std.proofs.lemmas.List.Folds.{list_all-append}
use Rattle.hp_model.specs.Occurrences.{Primitive, created, updated, deleted, signalled, commit_reached}
use Rattle.hp_model.specs.Rules.{Rule, Library, Statement, create, update, delete, signal, emit, when, each, for_answer, with_object, subtransaction, let_value, abort, veto}
use Rattle.hp_model.specs.Rules.{veto_with, on_rule, fire, Body, empty, ◌then◌}
use Rattle.hp_model.specs.Checked.{Scope, library_check, action_scope, Names, knowing_row, knowing_value, names_of}
use Rattle.hp_model.specs.Chains.{completes, triggers_from, signal_triggers, statement_triggers, body_triggers, may_detach}
use Rattle.hp_rule.specs.WellNamed.{knows_expression, knows_class, knows_event, knows_aggregate, knows_entries, knows_statement, knows_body, knows_rule}
use Rattle.hp_rule.proofs.WellNamedLemmas.{library_is_well_named}
use Rattle.hp_model.specs.Idle.{idle_rule, idle_from}
use Rattle.hp_analysis.specs.Reached.{has}
use Rattle.hp_analysis.specs.Installed.{rule_in, with_only}
use Rattle.hp_analysis.proofs.Within.{knows_targets}
use Rattle.hp_analysis.proofs.Only.{only_length}

module _ (library : Library) where
  abbrev below : ℕ → Bool
  below n = nat_lt n (length library.rules)

  both_below : (a b : List ℕ) → IsTrue (list_all below a) → IsTrue (list_all below b) → IsTrue (list_all below (a ++ b))
  both_below a b h k = subst IsTrue (sym (list_all-append below a b)) (and_from (list_all below a) (list_all below b) h k)

  listed_below : (n : ℕ) (rules : List Rule) (p : Primitive) → n + length rules ≡ length library.rules → IsTrue (list_all below (triggers_from n rules p))
  listed_below n [] p e = refl
  listed_below n (rule ∷ rules) p e =
      let here : n < length library.rules = omega (arith, e) in
      by (completes rule.event p) (lt-ltb n (length library.rules) here) (listed_below (suc n) rules p (omega (arith, e)))
    where
      by : (b : Bool) → IsTrue (below n) → IsTrue (list_all below (triggers_from (suc n) rules p))
          → IsTrue (list_all below (if b then n ∷ triggers_from (suc n) rules p else triggers_from (suc n) rules p))
      by true here rest = and_from (below n) (list_all below (triggers_from (suc n) rules p)) here rest
      by false here rest = rest

  signal_below : (p : Primitive) → IsTrue (list_all below (signal_triggers library p))
  signal_below p = listed_below 0 library.rules p (omega arith)

  module _ (scope : Scope) (same : scope.rules ≡ length library.rules) where
    mutual
      statement_below : (names : Names) (s : Statement) → IsTrue (knows_statement scope names s) → IsTrue (list_all below (statement_triggers library s))
      statement_below names (create class key assignments) h = signal_below (created class (pos 0) [])
      statement_below names (update class key assignments) h = signal_below (updated class (pos 0) [] [])
      statement_below names (delete class key) h = signal_below (deleted class (pos 0) [])
      statement_below names (signal name arguments) h = signal_below (signalled name [])
      statement_below names (emit e) h = refl
      statement_below names (when e a b) h =
          let parts = and_parts (knows_body scope names a) (knows_body scope names b) (and_parts (knows_expression names e) (knows_body scope names a && knows_body scope names b) h).1 in
          both_below (body_triggers library a) (body_triggers library b) (body_below names a parts.0) (body_below names b parts.1)
      statement_below names (each x class predicate body) h =
          body_below (knowing_row x names) body
          (and_parts (knows_expression (knowing_row x names) predicate) (knows_body scope (knowing_row x names) body)
          (and_parts (knows_class scope class) (knows_expression (knowing_row x names) predicate && knows_body scope (knowing_row x names) body) h).1).1
      statement_below names (for_answer x body) h = body_below names body (and_parts _ (knows_body scope names body) h).1
      statement_below names (with_object x class key body) h =
          body_below (knowing_row x names) body
          (and_parts (knows_expression names key) (knows_body scope (knowing_row x names) body)
          (and_parts (knows_class scope class) (knows_expression names key && knows_body scope (knowing_row x names) body) h).1).1
      statement_below names (subtransaction body otherwise) h =
          let parts = and_parts (knows_body scope names body) (knows_body scope names otherwise) h in
          both_below (body_triggers library body) (body_triggers library otherwise) (body_below names body parts.0) (body_below names otherwise parts.1)
      statement_below names (let_value x a body) h =
          body_below (knowing_value x names) body (and_parts (knows_aggregate (length scope.classes) names a) (knows_body scope (knowing_value x names) body) h).1
      statement_below names abort h = refl
      statement_below names veto h = refl
      statement_below names (veto_with e) h = refl
      statement_below names (on_rule op n) h = refl
      statement_below names (fire n) h = and_from (below n) true (subst (λ count. IsTrue (nat_lt n count)) same h) refl

      body_below : (names : Names) (b : Body) → IsTrue (knows_body scope names b) → IsTrue (list_all below (body_triggers library b))
      body_below names empty h = refl
      body_below names (s then rest) h =
          let parts = and_parts (knows_statement scope names s) (knows_body scope names rest) h in
          both_below (statement_triggers library s) (body_triggers library rest) (statement_below names s parts.0) (body_below names rest parts.1)

  rule_below : (r : Rule) → IsTrue (knows_rule library.classes (length library.rules) r) → IsTrue (knows_targets library r)
  rule_below r h =
      let action = action_scope library.classes (length library.rules) r.condition in
      let body = (and_parts (knows_entries (length library.classes) [] r.condition) (knows_body action (names_of r.condition) r.action)
      (and_parts (knows_event (length library.classes) r.event) (knows_entries (length library.classes) [] r.condition && knows_body action (names_of r.condition) r.action) h).1).1 in
      both_below (body_triggers library r.action) (if may_detach r then signal_triggers library commit_reached else []) (body_below action refl (names_of r.condition) r.action body)
      (commit (may_detach r))
    where
      commit : (b : Bool) → IsTrue (list_all below (if b then signal_triggers library commit_reached else []))
      commit true = signal_below commit_reached
      commit false = refl

  rules_below : (rules : List Rule) → IsTrue (list_all (knows_rule library.classes (length library.rules)) rules) → IsTrue (list_all (knows_targets library) rules)
  rules_below [] h = refl
  rules_below (r ∷ rs) h =
      let parts = and_parts (knows_rule library.classes (length library.rules) r) (list_all (knows_rule library.classes (length library.rules)) rs) h in
      and_from (knows_targets library r) (list_all (knows_targets library) rs) (rule_below r parts.0) (rules_below rs parts.1)

pub targets_known : (library : Library) → library_check library ≡ Ok tt → list_all (knows_targets library) library.rules ≡ true
targets_known library checked = rules_below library library.rules (library_is_well_named library checked).rules_know

-- the same where the rules outside a set do nothing
module _ (library : Library) (set : List Bool) where
  abbrev only : Library
  only = with_only set library

  one_known : (n : ℕ) (r : Rule) → IsTrue (knows_rule library.classes (length library.rules) r) → IsTrue (knows_targets only (rule_in set (length library.classes) n r))
  one_known n r h = by (has set n)
    where
      idle : Rule
      idle = idle_rule (length library.classes) r

      commit : (b : Bool) → IsTrue (list_all (below only) (if b then signal_triggers only commit_reached else []))
      commit true = signal_below only commit_reached
      commit false = refl

      by : (b : Bool) → IsTrue (knows_targets only (if b then r else idle))
      by true = rule_below only r (subst (λ count. IsTrue (knows_rule library.classes count r)) (sym (only_length set library)) h)
      by false = commit (may_detach idle)

  each_known : (n : ℕ) (rules : List Rule) → IsTrue (list_all (knows_rule library.classes (length library.rules)) rules)
      → IsTrue (list_all (knows_targets only) (idle_from (has set) (length library.classes) n rules))
  each_known n [] h = refl
  each_known n (r ∷ rs) h =
      let parts = and_parts (knows_rule library.classes (length library.rules) r) (list_all (knows_rule library.classes (length library.rules)) rs) h in
      and_from (knows_targets only (rule_in set (length library.classes) n r)) (list_all (knows_targets only) (idle_from (has set) (length library.classes) (suc n) rs))
      (one_known n r parts.0) (each_known (suc n) rs parts.1)

pub only_known : (library : Library) (set : List Bool) → library_check library ≡ Ok tt → list_all (knows_targets (with_only set library)) (with_only set library).rules ≡ true
only_known library set checked = each_known library set 0 library.rules (library_is_well_named library checked).rules_know
