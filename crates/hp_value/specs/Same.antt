-- Whether two values of the model are the same, as tests; each test is true exactly where the two are equal.
use Rattle.std.specs.Prelude.{ℕ, ℤ, ◌≡◌, refl, Bool, true, false, ◌&&◌, nat_eq, bytes_eq, List, Option, None, Some}
use Rattle.std.specs.Ordering.{int_eq}
use Rattle.std.proofs.Common.{sym, ap, ◌∙◌}
use mathlib.Core.Bool.{true≢false, beq}
use lib.Pointwise.{pointwise, pointwise_decides, bytes_decides}
use Rattle.std.specs.Bool.{Decides}
use Rattle.std.specs.Cmp.{IsEquivalence, decided, unsigned_Decides, signed_Decides, booleans_Decides}
use Rattle.hp_model.specs.Values.{Name, Veto, Value, integer, boolean, text, Row, KeyedRow}
use Rattle.hp_value.specs.Rows.{values_of}
use Rattle.hp_model.specs.Occurrences.{Primitive, created, updated, deleted, signalled, commit_reached, moment_reached, Occurrence}

abbrev pub value_same : Value → Value → Bool
value_same (integer x) (integer y) = int_eq x y
value_same (boolean b) (boolean c) = beq b c
value_same (text s) (text t) = bytes_eq s t
value_same v w = false

abbrev pub pair_same : Name × Value → Name × Value → Bool
pair_same p q = bytes_eq p.0 q.0 && value_same p.1 q.1

abbrev pub message_same : Option Value → Option Value → Bool
message_same None None = true
message_same (Some v) (Some w) = value_same v w
message_same m n = false

abbrev pub veto_same : Veto → Veto → Bool
veto_same a b = nat_eq a.rule b.rule && message_same a.message b.message

abbrev pub row_same : Row → Row → Bool
row_same = pointwise pair_same

abbrev pub keyed_same : KeyedRow → KeyedRow → Bool
keyed_same r s = int_eq r.key s.key && row_same r.row s.row

-- the same, but for the keys and the names
abbrev pub values_same : KeyedRow → KeyedRow → Bool
values_same r s = pointwise value_same (values_of r.row) (values_of s.row)

abbrev pub answer_same : Name × List KeyedRow → Name × List KeyedRow → Bool
answer_same a b = bytes_eq a.0 b.0 && pointwise keyed_same a.1 b.1

abbrev pub primitive_same : Primitive → Primitive → Bool
primitive_same (created c k n) (created c' k' n') = nat_eq c c' && (int_eq k k' && row_same n n')
primitive_same (updated c k o n) (updated c' k' o' n') = nat_eq c c' && (int_eq k k' && (row_same o o' && row_same n n'))
primitive_same (deleted c k o) (deleted c' k' o') = nat_eq c c' && (int_eq k k' && row_same o o')
primitive_same (signalled x vs) (signalled y ws) = bytes_eq x y && pointwise value_same vs ws
primitive_same commit_reached commit_reached = true
primitive_same (moment_reached t) (moment_reached u) = nat_eq t u
primitive_same p q = false

abbrev pub occurrence_same : Occurrence → Occurrence → Bool
occurrence_same o p = pointwise primitive_same o.parts p.parts && nat_eq o.count p.count

-- ---- true exactly where the two are equal

pub both_decide : {P Q R : Type 0} (a b : Bool) → Decides a P → Decides b Q → (P → Q → R) → (R → P × Q) → Decides (a && b) R
both_decide true b p q make split = (λ e. make (p.0 refl) (q.0 e), λ r. q.1 (split r).1)
both_decide false b p q make split = (λ e. absurd (true≢false (sym e)), λ r. p.1 (split r).0)

pub value_decides : (v w : Value) → Decides (value_same v w) (v ≡ w)
value_decides (integer x) (integer y) = (λ e. ap integer ((signed_Decides x y).0 e), λ e. (signed_Decides x y).1 (cc))
value_decides (boolean b) (boolean c) = (λ e. ap boolean ((booleans_Decides b c).0 e), λ e. (booleans_Decides b c).1 (cc))
value_decides (text s) (text t) = (λ e. ap text ((bytes_decides s t).0 e), λ e. (bytes_decides s t).1 (cc))
value_decides v w = (λ e. cc, λ e. cc)

pub pair_decides : (p q : Name × Value) → Decides (pair_same p q) (p ≡ q)
pair_decides p q =
    both_decide _ _ (bytes_decides p.0 q.0) (value_decides p.1 q.1)
    (λ e f. ap (λ (n : Name). (n, p.1)) e ∙ ap (λ (v : Value). (q.0, v)) f) (λ e. (ap (λ x. x.0) e, ap (λ x. x.1) e))

pub pair_equiv : IsEquivalence pair_same
pair_equiv = decided pair_same pair_decides

message_decides : (m n : Option Value) → Decides (message_same m n) (m ≡ n)
message_decides None None = (λ e. refl, λ e. refl)
message_decides (Some v) (Some w) = (λ e. ap Some ((value_decides v w).0 e), λ e. (value_decides v w).1 (cc))
message_decides m n = (λ e. cc, λ e. cc)

veto_decides : (a b : Veto) → Decides (veto_same a b) (a ≡ b)
veto_decides a b =
    let make : ℕ → Option Value → Veto = λ n m. record { rule = n; message = m } in
    both_decide _ _ (unsigned_Decides a.rule b.rule) (message_decides a.message b.message)
    (λ e f. ap (λ n. make n a.message) e ∙ ap (make b.rule) f) (λ e. (ap (λ x. x.rule) e, ap (λ x. x.message) e))

pub veto_equiv : IsEquivalence veto_same
veto_equiv = decided veto_same veto_decides

pub row_decides : (r s : Row) → Decides (row_same r s) (r ≡ s)
row_decides = pointwise_decides pair_decides

pub keyed_decides : (r s : KeyedRow) → Decides (keyed_same r s) (r ≡ s)
keyed_decides r s =
    let make : ℤ → Row → KeyedRow = λ k w. record { key = k; row = w } in
    both_decide _ _ (signed_Decides r.key s.key) (row_decides r.row s.row)
    (λ e f. ap (λ k. make k r.row) e ∙ ap (make s.key) f) (λ e. (ap (λ x. x.key) e, ap (λ x. x.row) e))

pub objects_decides : (os ps : List KeyedRow) → Decides (pointwise keyed_same os ps) (os ≡ ps)
objects_decides = pointwise_decides keyed_decides

pub answer_decides : (a b : Name × List KeyedRow) → Decides (answer_same a b) (a ≡ b)
answer_decides a b =
    both_decide _ _ (bytes_decides a.0 b.0) (pointwise_decides keyed_decides a.1 b.1)
    (λ e f. ap (λ (n : Name). (n, a.1)) e ∙ ap (λ (rs : List KeyedRow). (b.0, rs)) f) (λ e. (ap (λ x. x.0) e, ap (λ x. x.1) e))

pub primitive_decides : (p q : Primitive) → Decides (primitive_same p q) (p ≡ q)
primitive_decides (created c k n) (created c' k' n') =
    both_decide _ _ (unsigned_Decides c c')
    (both_decide _ _ (signed_Decides k k') (row_decides n n') (λ e f. (e, f)) (λ p. p))
    (λ e f. cc) (λ e. (cc, (cc, cc)))
primitive_decides (updated c k o n) (updated c' k' o' n') =
    both_decide _ _ (unsigned_Decides c c')
    (both_decide _ _ (signed_Decides k k') (both_decide _ _ (row_decides o o') (row_decides n n') (λ e f. (e, f)) (λ p. p)) (λ e f. (e, f)) (λ p. p))
    (λ e f. cc) (λ e. (cc, (cc, (cc, cc))))
primitive_decides (deleted c k o) (deleted c' k' o') =
    both_decide _ _ (unsigned_Decides c c')
    (both_decide _ _ (signed_Decides k k') (row_decides o o') (λ e f. (e, f)) (λ p. p))
    (λ e f. cc) (λ e. (cc, (cc, cc)))
primitive_decides (signalled x vs) (signalled y ws) =
    both_decide _ _ (bytes_decides x y) (pointwise_decides value_decides vs ws)
    (λ e f. cc) (λ e. (cc, cc))
primitive_decides commit_reached commit_reached = (λ e. refl, λ e. refl)
primitive_decides (moment_reached t) (moment_reached u) = (λ e. ap moment_reached ((unsigned_Decides t u).0 e), λ e. (unsigned_Decides t u).1 (cc))
primitive_decides p q = (λ e. cc, λ e. cc)

pub occurrence_decides : (o p : Occurrence) → Decides (occurrence_same o p) (o ≡ p)
occurrence_decides o p =
    let make : List Primitive → ℕ → Occurrence = λ ps n. record { parts = ps; count = n } in
    both_decide _ _ (pointwise_decides primitive_decides o.parts p.parts) (unsigned_Decides o.count p.count)
    (λ e f. ap (λ ps. make ps o.count) e ∙ ap (make p.parts) f) (λ e. (ap (λ x. x.parts) e, ap (λ x. x.count) e))

-- ---- equivalences

pub value_equiv : IsEquivalence value_same
value_equiv = decided value_same value_decides

pub row_equiv : IsEquivalence row_same
row_equiv = decided row_same row_decides

pub keyed_equiv : IsEquivalence keyed_same
keyed_equiv = decided keyed_same keyed_decides

pub objects_equiv : IsEquivalence (pointwise keyed_same)
objects_equiv = decided (pointwise keyed_same) objects_decides

pub answer_equiv : IsEquivalence answer_same
answer_equiv = decided answer_same answer_decides

pub primitive_equiv : IsEquivalence primitive_same
primitive_equiv = decided primitive_same primitive_decides

pub occurrence_equiv : IsEquivalence occurrence_same
occurrence_equiv = decided occurrence_same occurrence_decides
