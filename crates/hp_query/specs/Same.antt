-- Whether two queries, aggregates, entries or findings of the model are the same, as tests; each test is true exactly
-- where the two are equal.
use Rattle.std.specs.Prelude.{◌≡◌, ℕ, Bool, false, ◌&&◌, nat_eq, bytes_eq}
use Rattle.std.proofs.Common.{ap}
use lib.Pointwise.{pointwise, pointwise_decides, bytes_decides}
use Rattle.std.specs.Bool.{Decides}
use Rattle.std.specs.Cmp.{IsEquivalence, decided, unsigned_Decides}
use Rattle.hp_model.specs.Values.{Name, NamedValues}
use Rattle.hp_model.specs.Expressions.{Expression}
use Rattle.hp_model.specs.Rules.{Query, Aggregate, count_over, sum_over, least_over, greatest_over, next_key, single, Entry, query_entry, no_entry, let_entry}
use Rattle.hp_model.specs.Conditions.{Answers, Findings}
use Rattle.hp_value.specs.Same.{both_decide, answer_same, answer_decides, pair_same, pair_decides}
use Rattle.hp_value.specs.SameExpressions.{pair_decide, expression_same, expression_decides}

-- the same variable, class and predicate
abbrev pub rows_same : Name → ℕ → Expression → Name → ℕ → Expression → Bool
rows_same x c p y d q = bytes_eq x y && (nat_eq c d && expression_same p q)

abbrev pub query_same : Query → Query → Bool
query_same q r = rows_same q.name q.class q.predicate r.name r.class r.predicate

abbrev pub aggregate_same : Aggregate → Aggregate → Bool
aggregate_same (count_over x c p) (count_over y d q) = rows_same x c p y d q
aggregate_same (sum_over x c p a) (sum_over y d q b) = rows_same x c p y d q && expression_same a b
aggregate_same (least_over x c p a) (least_over y d q b) = rows_same x c p y d q && expression_same a b
aggregate_same (greatest_over x c p a) (greatest_over y d q b) = rows_same x c p y d q && expression_same a b
aggregate_same (next_key c) (next_key d) = nat_eq c d
aggregate_same (single a) (single b) = expression_same a b
aggregate_same a b = false

abbrev pub entry_same : Entry → Entry → Bool
entry_same (query_entry q) (query_entry r) = query_same q r
entry_same (no_entry q) (no_entry r) = query_same q r
entry_same (let_entry x a) (let_entry y b) = bytes_eq x y && aggregate_same a b
entry_same d e = false

abbrev pub findings_same : Findings → Findings → Bool
findings_same f g = pointwise answer_same f.answers g.answers && pointwise pair_same f.values g.values

-- ---- true exactly where the two are equal

rows_decide : (x : Name) (c : ℕ) (p : Expression) (y : Name) (d : ℕ) (q : Expression) → Decides (rows_same x c p y d q) ((x ≡ y) × ((c ≡ d) × (p ≡ q)))
rows_decide x c p y d q = pair_decide _ _ (bytes_decides x y) (pair_decide _ _ (unsigned_Decides c d) (expression_decides p q))

pub query_decides : (q r : Query) → Decides (query_same q r) (q ≡ r)
query_decides q r =
    let make : Name → ℕ → Expression → Query = λ n c p. record { name = n; class = c; predicate = p } in
    both_decide _ _ (bytes_decides q.name r.name) (pair_decide _ _ (unsigned_Decides q.class r.class) (expression_decides q.predicate r.predicate))
    (λ e f i. make (e i) (f.0 i) (f.1 i)) (λ e. (ap (λ x. x.name) e, (ap (λ x. x.class) e, ap (λ x. x.predicate) e)))

pub aggregate_decides : (a b : Aggregate) → Decides (aggregate_same a b) (a ≡ b)
aggregate_decides (count_over x c p) (count_over y d q) =
    both_decide _ _ (bytes_decides x y) (pair_decide _ _ (unsigned_Decides c d) (expression_decides p q))
    (λ e f i. count_over (e i) (f.0 i) (f.1 i)) (λ e. (cc, (cc, cc)))
aggregate_decides (sum_over x c p a) (sum_over y d q b) =
    both_decide _ _ (rows_decide x c p y d q) (expression_decides a b)
    (λ e f i. sum_over (e.0 i) (e.1.0 i) (e.1.1 i) (f i)) (λ e. ((cc, (cc, cc)), cc))
aggregate_decides (least_over x c p a) (least_over y d q b) =
    both_decide _ _ (rows_decide x c p y d q) (expression_decides a b)
    (λ e f i. least_over (e.0 i) (e.1.0 i) (e.1.1 i) (f i)) (λ e. ((cc, (cc, cc)), cc))
aggregate_decides (greatest_over x c p a) (greatest_over y d q b) =
    both_decide _ _ (rows_decide x c p y d q) (expression_decides a b)
    (λ e f i. greatest_over (e.0 i) (e.1.0 i) (e.1.1 i) (f i)) (λ e. ((cc, (cc, cc)), cc))
aggregate_decides (next_key c) (next_key d) = (λ e. ap next_key ((unsigned_Decides c d).0 e), λ e. (unsigned_Decides c d).1 (cc))
aggregate_decides (single a) (single b) = (λ e. ap single ((expression_decides a b).0 e), λ e. (expression_decides a b).1 (cc))
aggregate_decides a b = (λ e. cc, λ e. cc)

pub entry_decides : (d e : Entry) → Decides (entry_same d e) (d ≡ e)
entry_decides (query_entry q) (query_entry r) = (λ e. ap query_entry ((query_decides q r).0 e), λ e. (query_decides q r).1 (cc))
entry_decides (no_entry q) (no_entry r) = (λ e. ap no_entry ((query_decides q r).0 e), λ e. (query_decides q r).1 (cc))
entry_decides (let_entry x a) (let_entry y b) =
    both_decide _ _ (bytes_decides x y) (aggregate_decides a b) (λ e f i. let_entry (e i) (f i)) (λ e. (cc, cc))
entry_decides d e = (λ f. cc, λ f. cc)

pub findings_decides : (f g : Findings) → Decides (findings_same f g) (f ≡ g)
findings_decides f g =
    let make : Answers → NamedValues → Findings = λ as' vs. record { answers = as'; values = vs } in
    both_decide _ _ (pointwise_decides answer_decides f.answers g.answers) (pointwise_decides pair_decides f.values g.values)
    (λ d e i. make (d i) (e i)) (λ e. (ap (λ x. x.answers) e, ap (λ x. x.values) e))

-- ---- equivalences

pub aggregate_equiv : IsEquivalence aggregate_same
aggregate_equiv = decided aggregate_same aggregate_decides

pub entry_equiv : IsEquivalence entry_same
entry_equiv = decided entry_same entry_decides

pub findings_equiv : IsEquivalence findings_same
findings_equiv = decided findings_same findings_decides
