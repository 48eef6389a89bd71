-- Guards: rules that may veto; and which of them may let pass what they are to veto, since arithmetic ends them.
use Rattle.std.specs.Prelude.{Bool, true, false, not, ◌&&◌, ◌||◌, IsTrue, ⊤, Option, Some, None, is_none, if◌then◌else◌, ◌≡◌}
use Rattle.std.specs.List.{AllByRecursion}
use Rattle.hp_model.specs.Values.{Cause}
use Rattle.hp_model.specs.Rules.{Statement, when, each, for_answer, with_object, subtransaction, let_value, veto, veto_with, Body, empty, ◌then◌, Rule, Library, rule_at}
use Rattle.hp_model.specs.Tree.{Node, sub_node, fire_node, act_node}
use Rattle.hp_model.specs.Ranges.{IsFitLibrary, unit_fits}
use Rattle.hp_model.specs.Cascade.{Script, evaluate}
use Rattle.hp_model.specs.Endings.{Ended, whole_transaction, inner_node, condition_of, ReportHasOnly}
use Rattle.hp_model.specs.Kinds.{Declared, is_condition_calm, is_body_calm, library_kinded, unit_kinded, NotOfKinds, is_arithmetic}

-- a statement that vetoes, or has one in it that does
abbrev mutual
  pub statement_vetoes : Statement → Bool
  statement_vetoes (when e then_body else_body) = body_vetoes then_body || body_vetoes else_body
  statement_vetoes (each x class predicate body) = body_vetoes body
  statement_vetoes (for_answer x body) = body_vetoes body
  statement_vetoes (with_object x class key body) = body_vetoes body
  statement_vetoes (subtransaction body otherwise) = body_vetoes body || body_vetoes otherwise
  statement_vetoes (let_value x a body) = body_vetoes body
  statement_vetoes veto = true
  statement_vetoes (veto_with e) = true
  statement_vetoes s = false

  pub body_vetoes : Body → Bool
  body_vetoes empty = false
  body_vetoes (s then rest) = statement_vetoes s || body_vetoes rest

-- a guard is a rule whose action may veto; a closed one vetoes too where its condition or its action ends with a cause
abbrev pub is_open_guard : Rule → Bool
is_open_guard rule = body_vetoes rule.action && not rule.closed

-- what of a guard arithmetic may end, so that it doesn't veto
pub data Opening : Type 0 where
  by_condition : Opening
  by_action : Opening

abbrev pub first_opening : (condition action : Bool) → Option Opening
first_opening false action = Some by_condition
first_opening true false = Some by_action
first_opening true true = None

abbrev pub opening : Rule → Option Opening
opening rule = if is_open_guard rule then first_opening (is_condition_calm rule.condition) (is_body_calm rule.action) else None

-- ---- the law

-- a guard that isn't closed, and that no arithmetic ends
abbrev pub is_sure : Rule → Bool
is_sure rule = is_open_guard rule && is_none (opening rule)

abbrev pub is_node_sure : Library → Node → Bool
is_node_sure library sub_node = false
is_node_sure library (fire_node rule place condition) = is_sure (rule_at library rule)
is_node_sure library (act_node rule place) = is_sure (rule_at library rule)

-- no cause at all ends the condition of such a guard, and none of arithmetic or of a kind its action
abbrev pub GuardCause : Library → Ended → Cause → Type 0
GuardCause library whole_transaction c = ⊤
GuardCause library (inner_node what) c = is_node_sure library what ≡ true → NotOfKinds c × (is_arithmetic c ≡ false)
GuardCause library (condition_of rule) c = is_sure (rule_at library rule) ≡ false

-- so it is in each run of a kinded script
abbrev pub GuardsHold : Type 0
GuardsHold = (s : Script) (d : Declared) → IsFitLibrary s.library → AllByRecursion (λ u. IsTrue (unit_fits s.library u)) s.units
    → IsTrue (library_kinded s.library d) → AllByRecursion (λ u. IsTrue (unit_kinded s.library d u)) s.units
    → AllByRecursion (ReportHasOnly (GuardCause s.library)) (evaluate s).units
