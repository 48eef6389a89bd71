-- The canonical text of rows, aggregates, objects and lists in statements is read as these.
use Rattle.std.proofs.Common.{◌≡◌, refl, ap, ◌∙◌, ℕ, suc, ◌<◌, Bool, true, false, List, [], ◌∷◌, length, map, codes, Option, Some, None, Result, Ok, Err, arith}
use Rattle.std.specs.Prelude.{bytes_eq, is_some}
use Rattle.serde_json.specs.Data.{Data, string, array}
use Rattle.hp_model.specs.Values.{◌>>=◌}
use Rattle.hp_model.specs.NotationTokens.{Mark, where_mark, set_mark, open_parenthesis, close_parenthesis, comma, equal_sign, Token, mark, word, quoted, number}
use Rattle.hp_model.specs.NotationTokens.{string as string_token, Tokens, token, ending, unreadable, place, size}
use Rattle.hp_model.specs.NotationTree as T
use Rattle.hp_model.specs.NotationTree.{Node, data_of, form, Phrase}
use Rattle.hp_model.specs.NotationPhrases as P
use Rattle.hp_model.specs.NotationPhrases.{is_mark, is_word, begins, past, passed, listed}
use Rattle.hp_model.specs.NotationExpressions.{expressions_within, expression, conjunction, negation, comparison, sum, product, any_expression}
use Rattle.hp_model.specs.NotationStatements as S
use Rattle.hp_model.specs.NotationStatements.{aggregate_word, word_aggregate, aggregate, value_name, binding as binding_phrase, object, pair, pairs, arguments, empty_list}
use Rattle.hp_model.specs.NotationForms.{Expression, truth, expression_data, Rows, Aggregate, count_of, fold_of, total, least, greatest, next_key, plain, aggregate_data}
use Rattle.hp_model.specs.NotationForms.{Assignment, assignment_data, form_data, list_data}
use Rattle.hp_model.specs.NotationPrint.{Gap, tight, space, Pieces, at_gap, sign, free, name, value_token, value_token_of, enclosed_if, first_is, more_parts, expression_pieces}
use Rattle.hp_model.specs.NotationPrint.{expression_in, predicate_pieces, rows_pieces, begins_aggregate, aggregate_pieces, binding_pieces, object_pieces, assignment_pieces}
use Rattle.hp_model.specs.NotationPrint.{assignments_pieces, argument_pieces, arguments_pieces}
use Rattle.hp_model.specs.NotationLaws.{IsFitExpression, AreFitRows, IsFitAggregate, AreFitAssignments, AreFitExpressions}
use Rattle.hp_model.proofs.NotationReadings.{bind_ok, stream, size-stream, binding, Reading, name_cases, begins-stream, ListsBy, lists_one, lists_more, no_fault}
use Rattle.hp_model.proofs.NotationExpressionsRead.{grows_expression, grows_in, any_expression_read, any_sum_read, enclosed_expression_read}

-- ---- names

pub name_is : (gap : Gap) (x : List ℕ) (k : Pieces) (o : ℕ → ℕ) → P.name (stream o (name gap x k)) ≡ Ok (T.text (o 0) x, stream (λ i. o (suc i)) k)
name_is gap x k o = name_cases x (λ t. P.name (stream o (at_gap gap t k)) ≡ Ok (T.text (o 0) x, stream (λ i. o (suc i)) k)) refl refl

-- ---- what follows a part

-- what follows ends an expression, and isn't `where`
pub record Ends (k : Pieces) : Type 0 where
  pub binds : binding k < 1
  pub no_where : first_is (is_mark where_mark) k ≡ false

-- ---- rows

pub predicate_read : (e : Expression) → IsFitExpression e → (k : Pieces) → Ends k → (o : ℕ → ℕ) → Reading S.predicate (expression_data e) (stream o (predicate_pieces e k)) k
predicate_read (truth true) w k ends o = record {
  node = T.truth (place (stream o k)) true;
  next = o;
  same = refl;
  reads = ap (λ b. elim b as (λ _. Result (Node × Tokens) ℕ) [ true ↦ any_expression (past (stream o k)) | false ↦ Ok (T.truth (place (stream o k)) true, stream o k) ])
      (begins-stream (is_mark where_mark) k o ∙ ends.no_where);
}
predicate_read e w k ends o =
    let r = any_expression_read e w.0 w.1 space k (λ i. o (suc i)) ends.binds in
    record { node = r.node; next = r.next; same = r.same; reads = r.reads }

pub record RowsRead (r : Rows) (ts : Tokens) (k : Pieces) : Type 0 where
  pub rows : S.Rows
  pub next : ℕ → ℕ
  pub same_name : data_of rows.name ≡ string r.name
  pub same_class : data_of rows.class ≡ string r.class
  pub same_predicate : data_of rows.predicate ≡ expression_data r.predicate
  pub reads : S.rows ts ≡ Ok (rows, stream next k)

pub rows_read : (r : Rows) → AreFitRows r → (k : Pieces) → Ends k → (o : ℕ → ℕ) → RowsRead r (stream o (rows_pieces r k)) k
rows_read r w k ends o =
    let after_name = name space r.name (predicate_pieces r.predicate k) in
    let c = name_is space r.class after_name o in
    let x = name_is space r.name (predicate_pieces r.predicate k) (λ i. o (suc i)) in
    let e = predicate_read r.predicate w.predicate k ends (λ i. o (suc (suc i))) in
    record {
      rows = record { name = T.text (o 1) r.name; class = T.text (o 0) r.class; predicate = e.node };
      next = e.next;
      same_name = refl;
      same_class = refl;
      same_predicate = e.same;
      reads = bind_ok _ _ _ c ∙ bind_ok _ _ _ x ∙ bind_ok _ _ _ e.reads;
    }

rows_same : (tag : List ℕ) (r : Rows) (n : S.Rows) (ds : List Data) → data_of n.name ≡ string r.name → data_of n.class ≡ string r.class → data_of n.predicate ≡ expression_data r.predicate
    → form_data tag (data_of n.name ∷ data_of n.class ∷ data_of n.predicate ∷ ds) ≡ form_data tag (string r.name ∷ string r.class ∷ expression_data r.predicate ∷ ds)
rows_same tag r n ds p q s = λ i. form_data tag (p i ∷ q i ∷ s i ∷ ds)

-- ---- aggregates

over_read : (at : ℕ) (tag : List ℕ) (r : Rows) (e : Expression) → AreFitRows r → IsFitExpression e → (k : Pieces) → Ends k → (o : ℕ → ℕ)
    → Reading (S.over at tag) (form_data tag (string r.name ∷ string r.class ∷ expression_data r.predicate ∷ expression_data e ∷ []))
    (stream o (expression_pieces e space (free space (codes "over") (rows_pieces r k)))) k
over_read at tag r e w v k ends o =
    let x = any_expression_read e v.0 v.1 space (free space (codes "over") (rows_pieces r k)) o (omega arith) in
    let n = rows_read r w k ends (λ i. x.next (suc i)) in
    record {
      node = form at tag (n.rows.name ∷ n.rows.class ∷ n.rows.predicate ∷ x.node ∷ []);
      next = n.next;
      same = λ i. form_data tag (n.same_name i ∷ n.same_class i ∷ n.same_predicate i ∷ x.same i ∷ []);
      reads = bind_ok _ _ _ x.reads ∙ bind_ok _ _ _ n.reads;
    }

no_word : (w : Option S.AggregateWord) → is_some w ≡ false → w ≡ None
no_word None h = refl
no_word (Some x) h = cc

aggregate_is : (ps : Pieces) (o : ℕ → ℕ) → first_is begins_aggregate ps ≡ false → aggregate (stream o ps) ≡ any_expression (stream o ps)
unfolding aggregate
aggregate_is [] o h = refl
aggregate_is (p ∷ ps) o h = go p.token h
  where
    go : (t : Token) → begins_aggregate t ≡ false → aggregate (token (o 0) t (stream (λ i. o (suc i)) ps)) ≡ any_expression (token (o 0) t (stream (λ i. o (suc i)) ps))
    go (word w) h = ap (λ x. word_aggregate (o 0) w x (stream (λ i. o (suc i)) ps)) (no_word (aggregate_word w) h)
    go (mark m) h = refl
    go (quoted x) h = refl
    go (number n) h = refl
    go (string_token s) h = refl

plain_read : (e : Expression) → IsFitExpression e → (k : Pieces) → Ends k → (o : ℕ → ℕ) (b : Bool) → first_is begins_aggregate (expression_pieces e space k) ≡ b
    → Reading aggregate (expression_data e) (stream o (enclosed_if b (expression_pieces e) space k)) k
unfolding aggregate
plain_read e w k ends o true is =
    let r = enclosed_expression_read e w.0 w.1 space k o ends.binds in
    record { node = r.node; next = r.next; same = r.same; reads = r.reads }
plain_read e w k ends o false is =
    let r = any_expression_read e w.0 w.1 space k o ends.binds in
    record { node = r.node; next = r.next; same = r.same; reads = aggregate_is (expression_pieces e space k) o is ∙ r.reads }

pub aggregate_read : (a : Aggregate) → IsFitAggregate a → (k : Pieces) → Ends k → (o : ℕ → ℕ) → Reading aggregate (aggregate_data a) (stream o (aggregate_pieces a k)) k
unfolding aggregate
aggregate_read (count_of r) w k ends o =
    let n = rows_read r w k ends (λ i. o (suc i)) in
    record {
      node = form (o 0) (codes "count") (n.rows.name ∷ n.rows.class ∷ n.rows.predicate ∷ []);
      next = n.next;
      same = λ i. form_data (codes "count") (n.same_name i ∷ n.same_class i ∷ n.same_predicate i ∷ []);
      reads = bind_ok _ _ _ n.reads;
    }
aggregate_read (fold_of total r e) w k ends o = let x = over_read (o 0) (codes "sum") r e w.0 w.1 k ends (λ i. o (suc i)) in record { node = x.node; next = x.next; same = x.same; reads = x.reads }
aggregate_read (fold_of least r e) w k ends o = let x = over_read (o 0) (codes "least") r e w.0 w.1 k ends (λ i. o (suc i)) in record { node = x.node; next = x.next; same = x.same; reads = x.reads }
aggregate_read (fold_of greatest r e) w k ends o =
    let x = over_read (o 0) (codes "greatest") r e w.0 w.1 k ends (λ i. o (suc i)) in
    record { node = x.node; next = x.next; same = x.same; reads = x.reads }
aggregate_read (next_key c) w k ends o = record {
  node = form (o 0) (codes "next") (T.text (o 1) c ∷ []);
  next = λ i. o (suc (suc i));
  same = refl;
  reads = bind_ok _ _ _ (name_is space c k (λ i. o (suc i)));
}
aggregate_read (plain e) w k ends o = plain_read e w k ends o (first_is begins_aggregate (expression_pieces e space k)) refl

-- ---- names of values

value_name_is : (gap : Gap) (x : List ℕ) (k : Pieces) (o : ℕ → ℕ) → value_name (stream o (at_gap gap (value_token x) k)) ≡ Ok (T.text (o 0) x, stream (λ i. o (suc i)) k)
value_name_is gap x k o = go (bytes_eq x (codes "now")) refl
  where
    ts : Token → Tokens
    ts t = stream o (at_gap gap t k)

    go : (b : Bool) → bytes_eq x (codes "now") ≡ b → value_name (stream o (at_gap gap (value_token_of x b) k)) ≡ Ok (T.text (o 0) x, stream (λ i. o (suc i)) k)
    go true e = refl
    go false e =
        name_cases x (λ t. value_name (stream o (at_gap gap t k)) ≡ Ok (T.text (o 0) x, stream (λ i. o (suc i)) k))
        (ap (λ b. elim b as (λ _. Result (Node × Tokens) ℕ) [ true ↦ Err (o 0) | false ↦ Ok (T.text (o 0) x, stream (λ i. o (suc i)) k) ]) e) refl

pub record BindingRead (x : List ℕ) (a : Aggregate) (ts : Tokens) (k : Pieces) : Type 0 where
  pub name : Node
  pub value : Node
  pub next : ℕ → ℕ
  pub same_name : data_of name ≡ string x
  pub same_value : data_of value ≡ aggregate_data a
  pub reads : binding_phrase ts ≡ Ok ((name, value), stream next k)

pub binding_read : (x : List ℕ) (a : Aggregate) → IsFitAggregate a → (k : Pieces) → Ends k → (o : ℕ → ℕ) → BindingRead x a (stream o (binding_pieces x a k)) k
binding_read x a w k ends o =
    let r = aggregate_read a w k ends (λ i. o (suc (suc i))) in
    record {
      name = T.text (o 0) x;
      value = r.node;
      next = r.next;
      same_name = refl;
      same_value = r.same;
      reads = bind_ok _ _ _ (value_name_is space x (sign space equal_sign (aggregate_pieces a k)) o) ∙ bind_ok _ _ _ r.reads;
    }

-- ---- objects, assignments and arguments

pub record ObjectRead (c : List ℕ) (e : Expression) (ts : Tokens) (k : Pieces) : Type 0 where
  pub class : Node
  pub key : Node
  pub next : ℕ → ℕ
  pub same_class : data_of class ≡ string c
  pub same_key : data_of key ≡ expression_data e
  pub reads : object ts ≡ Ok ((class, key), stream next k)

pub object_read : (c : List ℕ) (e : Expression) → IsFitExpression e → (k : Pieces) (o : ℕ → ℕ) → ObjectRead c e (stream o (object_pieces c e k)) k
object_read c e w k o =
    let after = sign tight close_parenthesis k in
    let r = any_expression_read e w.0 w.1 tight after (λ i. o (suc (suc i))) (omega arith) in
    record {
      class = T.text (o 0) c;
      key = r.node;
      next = λ i. r.next (suc i);
      same_class = refl;
      same_key = r.same;
      reads = bind_ok _ _ _ (name_is space c (sign tight open_parenthesis (expression_pieces e tight after)) o) ∙ bind_ok _ _ _ r.reads;
    }

pair_read : (a : Assignment) → IsFitExpression a.value → (k : Pieces) → binding k < 5 → (o : ℕ → ℕ) → Reading pair (assignment_data a) (stream o (assignment_pieces a k)) k
pair_read a w k h o =
    let r = any_sum_read a.value w.0 w.1 space k (λ i. o (suc (suc i))) h in
    record {
      node = T.list (o 0) (T.nodes (T.text (o 0) a.field ∷ r.node ∷ []));
      next = r.next;
      same = λ i. list_data (string a.field ∷ r.same i ∷ []);
      reads = bind_ok _ _ _ (name_is space a.field (sign space equal_sign (expression_in 5 a.value space k)) o) ∙ bind_ok _ _ _ r.reads;
    }

grows_assignment : (a : Assignment) (k : Pieces) → suc (length k) < length (assignment_pieces a k)
grows_assignment a k = omega (arith, grows_in 5 a.value space k)

pairs_listed : (a : Assignment) (others : List Assignment) → AreFitAssignments (a ∷ others) → (k : Pieces) → binding k < 1 → first_is (is_mark comma) k ≡ false
    → ListsBy pair (map assignment_data (a ∷ others)) (assignment_pieces a (more_parts assignment_pieces others k)) k
pairs_listed a [] w k h none = lists_one pair (assignment_data a) (assignment_pieces a k) k none (omega (arith, grows_assignment a k)) (pair_read a w.1 k (omega arith))
pairs_listed a (b ∷ others) w k h none =
    let qs = assignment_pieces b (more_parts assignment_pieces others k) in
    lists_more pair (assignment_data a) (map assignment_data (b ∷ others)) (assignment_pieces a (sign tight comma qs)) qs k (omega (arith, grows_assignment a (sign tight comma qs)))
    (pair_read a w.1 (sign tight comma qs) (omega arith)) (pairs_listed b others w.2 k h none)

empty_read : (m : Mark) (one : Phrase Node) (k : Pieces) → first_is (is_mark m) k ≡ false → (o : ℕ → ℕ)
    → Reading (λ ts. elim (begins (is_mark m) ts) as (λ _. Result (Node × Tokens) ℕ) [ true ↦ one ts | false ↦ empty_list ts ]) (list_data []) (stream o k) k
empty_read m one k none o = record {
  node = T.list (place (stream o k)) T.no_nodes;
  next = o;
  same = refl;
  reads = ap (λ b. elim b as (λ _. Result (Node × Tokens) ℕ) [ true ↦ one (stream o k) | false ↦ empty_list (stream o k) ]) (begins-stream (is_mark m) k o ∙ none);
}

pub pairs_read : (ps : List Assignment) → AreFitAssignments ps → (k : Pieces) → binding k < 1 → first_is (is_mark comma) k ≡ false → first_is (is_mark set_mark) k ≡ false → (o : ℕ → ℕ)
    → Reading pairs (list_data (map assignment_data ps)) (stream o (assignments_pieces ps k)) k
pairs_read [] w k h none no_set o =
    let r = empty_read set_mark (λ ts. S.list_of_parts (place ts) pair (past ts)) k no_set o in
    record { node = r.node; next = r.next; same = r.same; reads = r.reads }
pairs_read (a ∷ others) w k h none no_set o =
    let ps = assignment_pieces a (more_parts assignment_pieces others k) in
    let r = pairs_listed a others w k h none (λ i. o (suc i)) (size (stream (λ i. o (suc i)) ps)) (omega (arith, size-stream (λ i. o (suc i)) ps)) in
    record {
      node = T.list (o 0) r.nodes;
      next = r.next;
      same = λ i. array (r.same i);
      reads = bind_ok _ _ _ r.reads;
    }

grows_argument : (e : Expression) (gap : Gap) (k : Pieces) → length k < length (expression_pieces e gap k)
grows_argument e gap k = grows_expression e gap k

arguments_listed : (e : Expression) (es : List Expression) → AreFitExpressions (e ∷ es) → (gap : Gap) (k : Pieces) → binding k < 1 → first_is (is_mark comma) k ≡ false
    → ListsBy any_expression (map expression_data (e ∷ es)) (expression_pieces e gap (more_parts argument_pieces es k)) k
arguments_listed e [] w gap k h none =
    lists_one any_expression (expression_data e) (expression_pieces e gap k) k none (grows_expression e gap k) (λ o. any_expression_read e w.0.0 w.0.1 gap k o h)
arguments_listed e (x ∷ es) w gap k h none =
    let qs = expression_pieces x space (more_parts argument_pieces es k) in
    lists_more any_expression (expression_data e) (map expression_data (x ∷ es)) (expression_pieces e gap (sign tight comma qs)) qs k (omega (arith, grows_expression e gap (sign tight comma qs)))
    (λ o. any_expression_read e w.0.0 w.0.1 gap (sign tight comma qs) o (omega arith)) (arguments_listed x es w.1 space k h none)

-- no expression begins with `)`
not_closed : (ts : Tokens) (r : Node × Tokens) → any_expression ts ≡ Ok r → begins (is_mark close_parenthesis) ts ≡ false
unfolding expressions_within expression conjunction negation comparison sum product
not_closed (token at (mark close_parenthesis) ts) r e = absurd (no_fault e)
not_closed (token at (mark m) ts) r e = refl
not_closed (token at (word w) ts) r e = refl
not_closed (token at (quoted x) ts) r e = refl
not_closed (token at (number n) ts) r e = refl
not_closed (token at (string_token s) ts) r e = refl
not_closed (ending at) r e = refl
not_closed (unreadable at) r e = refl

pub arguments_read : (es : List Expression) → AreFitExpressions es → (k : Pieces) → first_is (is_mark open_parenthesis) k ≡ false → (o : ℕ → ℕ)
    → Reading arguments (list_data (map expression_data es)) (stream o (arguments_pieces es k)) k
arguments_read [] w k none o =
    let r = empty_read open_parenthesis (λ ts. S.some_arguments (place ts) (past ts)) k none o in
    record { node = r.node; next = r.next; same = r.same; reads = r.reads }
arguments_read (e ∷ es) w k none o =
    let after = sign tight close_parenthesis k in
    let ps = expression_pieces e tight (more_parts argument_pieces es after) in
    let ts = stream (λ i. o (suc i)) ps in
    let r = arguments_listed e es w tight after (omega arith) refl (λ i. o (suc i)) (size ts) (omega (arith, size-stream (λ i. o (suc i)) ps)) in
    record {
      node = T.list (o 0) r.nodes;
      next = λ i. r.next (suc i);
      same = λ i. array (r.same i);
      reads = ap (λ b. elim b as (λ _. Result (Node × Tokens) ℕ) [
        | true ↦ Ok (T.list (o 0) T.no_nodes, past ts)
        | false ↦ S.list_of_parts (o 0) any_expression ts >>= λ p. passed (is_mark close_parenthesis) p.1 >>= λ end. Ok (p.0, end)
      ]) (begins_no_close es) ∙ bind_ok _ _ _ (bind_ok _ _ _ r.reads);
    }
  where
    begins_no_close : (es : List Expression)
        → begins (is_mark close_parenthesis) (stream (λ i. o (suc i)) (expression_pieces e tight (more_parts argument_pieces es (sign tight close_parenthesis k)))) ≡ false
    begins_no_close [] = let r = any_expression_read e w.0.0 w.0.1 tight (sign tight close_parenthesis k) (λ i. o (suc i)) (omega arith) in not_closed _ _ r.reads
    begins_no_close (x ∷ xs) =
        let r = any_expression_read e w.0.0 w.0.1 tight (more_parts argument_pieces (x ∷ xs) (sign tight close_parenthesis k)) (λ i. o (suc i)) (omega arith) in not_closed _ _ r.reads
