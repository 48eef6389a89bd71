-- Whether two statements of the model are the same, as a test that is true exactly where the two are equal.
use Rattle.std.specs.Prelude.{◌≡◌, refl, Bool, true, false, ◌&&◌, nat_eq, bytes_eq}
use Rattle.std.proofs.Common.{ap}
use lib.Pointwise.{pointwise, pointwise_decides, bytes_decides}
use Rattle.std.specs.Bool.{Decides}
use Rattle.std.specs.Cmp.{IsEquivalence, decided, unsigned_Decides}
use Rattle.hp_model.specs.Values.{Name}
use Rattle.hp_model.specs.Expressions.{Expression}
use Rattle.hp_model.specs.Rules.{Assignment, RuleOperation, install, enable, disable, remove}
use Rattle.hp_model.specs.Rules.{Statement, create, update, delete, signal, emit, when, each, for_answer, with_object, subtransaction}
use Rattle.hp_model.specs.Rules.{let_value, abort, veto, veto_with, on_rule, fire, Body, empty, ◌then◌}
use Rattle.hp_value.specs.Same.{both_decide}
use Rattle.hp_value.specs.SameExpressions.{pair_decide, expression_same, expression_decides}
use Rattle.hp_query.specs.Same.{aggregate_same, aggregate_decides}

abbrev pub assignment_same : Assignment → Assignment → Bool
assignment_same a b = bytes_eq a.field b.field && expression_same a.value b.value

abbrev pub operation_same : RuleOperation → RuleOperation → Bool
operation_same install install = true
operation_same enable enable = true
operation_same disable disable = true
operation_same remove remove = true
operation_same o p = false

abbrev mutual
  pub statement_same : Statement → Statement → Bool
  statement_same (create c k ps) (create d l qs) = nat_eq c d && (expression_same k l && pointwise assignment_same ps qs)
  statement_same (update c k ps) (update d l qs) = nat_eq c d && (expression_same k l && pointwise assignment_same ps qs)
  statement_same (delete c k) (delete d l) = nat_eq c d && expression_same k l
  statement_same (signal x as') (signal y bs) = bytes_eq x y && pointwise expression_same as' bs
  statement_same (emit a) (emit b) = expression_same a b
  statement_same (when e a b) (when f c d) = expression_same e f && (body_same a c && body_same b d)
  statement_same (each x c e a) (each y d f b) = bytes_eq x y && (nat_eq c d && (expression_same e f && body_same a b))
  statement_same (for_answer x a) (for_answer y b) = bytes_eq x y && body_same a b
  statement_same (with_object x c e a) (with_object y d f b) = bytes_eq x y && (nat_eq c d && (expression_same e f && body_same a b))
  statement_same (subtransaction a b) (subtransaction c d) = body_same a c && body_same b d
  statement_same (let_value x e a) (let_value y f b) = bytes_eq x y && (aggregate_same e f && body_same a b)
  statement_same abort abort = true
  statement_same veto veto = true
  statement_same (veto_with a) (veto_with b) = expression_same a b
  statement_same (on_rule o m) (on_rule p n) = operation_same o p && nat_eq m n
  statement_same (fire m) (fire n) = nat_eq m n
  statement_same s t = false

  pub body_same : Body → Body → Bool
  body_same empty empty = true
  body_same (◌then◌ s a) (◌then◌ t b) = statement_same s t && body_same a b
  body_same a b = false

-- ---- true exactly where the two are equal

assignment_decides : (a b : Assignment) → Decides (assignment_same a b) (a ≡ b)
assignment_decides a b =
    let make : Name → Expression → Assignment = λ f v. record { field = f; value = v } in
    both_decide _ _ (bytes_decides a.field b.field) (expression_decides a.value b.value)
    (λ e f i. make (e i) (f i)) (λ e. (ap (λ x. x.field) e, ap (λ x. x.value) e))

operation_decides : (o p : RuleOperation) → Decides (operation_same o p) (o ≡ p)
operation_decides install install = (λ e. refl, λ e. refl)
operation_decides enable enable = (λ e. refl, λ e. refl)
operation_decides disable disable = (λ e. refl, λ e. refl)
operation_decides remove remove = (λ e. refl, λ e. refl)
operation_decides o p = (λ e. cc, λ e. cc)

mutual
  pub statement_decides : (s t : Statement) → Decides (statement_same s t) (s ≡ t)
  statement_decides (create c k ps) (create d l qs) =
      both_decide _ _ (unsigned_Decides c d) (pair_decide _ _ (expression_decides k l) (pointwise_decides assignment_decides ps qs))
      (λ e f i. create (e i) (f.0 i) (f.1 i)) (λ e. (cc, (cc, cc)))
  statement_decides (update c k ps) (update d l qs) =
      both_decide _ _ (unsigned_Decides c d) (pair_decide _ _ (expression_decides k l) (pointwise_decides assignment_decides ps qs))
      (λ e f i. update (e i) (f.0 i) (f.1 i)) (λ e. (cc, (cc, cc)))
  statement_decides (delete c k) (delete d l) =
      both_decide _ _ (unsigned_Decides c d) (expression_decides k l) (λ e f i. delete (e i) (f i)) (λ e. (cc, cc))
  statement_decides (signal x as') (signal y bs) =
      both_decide _ _ (bytes_decides x y) (pointwise_decides expression_decides as' bs) (λ e f i. signal (e i) (f i)) (λ e. (cc, cc))
  statement_decides (emit a) (emit b) = (λ e. ap emit ((expression_decides a b).0 e), λ e. (expression_decides a b).1 (cc))
  statement_decides (when e a b) (when f c d) =
      both_decide _ _ (expression_decides e f) (pair_decide _ _ (body_decides a c) (body_decides b d))
      (λ g h i. when (g i) (h.0 i) (h.1 i)) (λ g. (cc, (cc, cc)))
  statement_decides (each x c e a) (each y d f b) =
      both_decide _ _ (bytes_decides x y) (pair_decide _ _ (unsigned_Decides c d) (pair_decide _ _ (expression_decides e f) (body_decides a b)))
      (λ g h i. each (g i) (h.0 i) (h.1.0 i) (h.1.1 i)) (λ g. (cc, (cc, (cc, cc))))
  statement_decides (for_answer x a) (for_answer y b) =
      both_decide _ _ (bytes_decides x y) (body_decides a b) (λ e f i. for_answer (e i) (f i)) (λ e. (cc, cc))
  statement_decides (with_object x c e a) (with_object y d f b) =
      both_decide _ _ (bytes_decides x y) (pair_decide _ _ (unsigned_Decides c d) (pair_decide _ _ (expression_decides e f) (body_decides a b)))
      (λ g h i. with_object (g i) (h.0 i) (h.1.0 i) (h.1.1 i)) (λ g. (cc, (cc, (cc, cc))))
  statement_decides (subtransaction a b) (subtransaction c d) =
      both_decide _ _ (body_decides a c) (body_decides b d) (λ e f i. subtransaction (e i) (f i)) (λ e. (cc, cc))
  statement_decides (let_value x e a) (let_value y f b) =
      both_decide _ _ (bytes_decides x y) (pair_decide _ _ (aggregate_decides e f) (body_decides a b))
      (λ g h i. let_value (g i) (h.0 i) (h.1 i)) (λ g. (cc, (cc, cc)))
  statement_decides abort abort = (λ e. refl, λ e. refl)
  statement_decides veto veto = (λ e. refl, λ e. refl)
  statement_decides (veto_with a) (veto_with b) = (λ e. ap veto_with ((expression_decides a b).0 e), λ e. (expression_decides a b).1 (cc))
  statement_decides (on_rule o m) (on_rule p n) =
      both_decide _ _ (operation_decides o p) (unsigned_Decides m n) (λ e f i. on_rule (e i) (f i)) (λ e. (cc, cc))
  statement_decides (fire m) (fire n) = (λ e. ap fire ((unsigned_Decides m n).0 e), λ e. (unsigned_Decides m n).1 (cc))
  statement_decides s t = (λ e. cc, λ e. cc)

  pub body_decides : (a b : Body) → Decides (body_same a b) (a ≡ b)
  body_decides empty empty = (λ e. refl, λ e. refl)
  body_decides (◌then◌ s a) (◌then◌ t b) =
      both_decide _ _ (statement_decides s t) (body_decides a b) (λ e f i. ◌then◌ (e i) (f i)) (λ e. (cc, cc))
  body_decides a b = (λ e. cc, λ e. cc)

pub statement_equiv : IsEquivalence statement_same
statement_equiv = decided statement_same statement_decides
