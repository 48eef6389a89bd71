-- The canonical text of statements and bodies is read as these.
use Rattle.std.proofs.Common.{◌≡◌, refl, ap, ◌∙◌, ℕ, zero, suc, ◌<◌, ◌≤◌, Bool, true, false, List, [], ◌∷◌, length, map, codes, Result, Ok, arith}
use Rattle.serde_json.specs.Data.{string, array, item}
use Rattle.hp_model.specs.Values.{◌>>=◌}
use Rattle.hp_model.specs.NotationTokens.{Mark, where_mark, as_mark, set_mark, else_mark, otherwise_mark, not_mark, true_mark, false_mark, new_mark, old_mark, event_mark}
use Rattle.hp_model.specs.NotationTokens.{close_brace, open_parenthesis, close_parenthesis, comma, semicolon, minus_sign, Token, mark, word, quoted, number, string as string_token}
use Rattle.hp_model.specs.NotationTokens.{Tokens, token, ending, unreadable, place, size}
use Rattle.hp_model.specs.NotationTree as T
use Rattle.hp_model.specs.NotationTree.{Node, Nodes, no_nodes, node, data_of, items_of, form, Phrase}
use Rattle.hp_model.specs.NotationPhrases.{is_mark, begins, past}
use Rattle.hp_model.specs.NotationExpressions.{expressions_within, expression, conjunction, negation, comparison, sum, product, any_expression}
use Rattle.hp_model.specs.NotationStatements as S
use Rattle.hp_model.specs.NotationStatements.{Deeper, begins_message, past_semicolon, statements, statement, body, bodies_within, any_body}
use Rattle.hp_model.specs.NotationForms.{Expression, truth, expression_data, Rows, Aggregate, count_of, fold_of, next_key, plain, Assignment, create, update, install, enable}
use Rattle.hp_model.specs.NotationForms.{disable, remove, fire, Statement, set_object, delete, signal, emit, when, each, for_answer, with_object, with_value, subtransaction, abort}
use Rattle.hp_model.specs.NotationForms.{veto, veto_with, on_rule, Body, empty, ◌then◌, assignment_data, statement_data, body_data, form_data, list_data}
use Rattle.hp_model.specs.NotationPrint.{Gap, tight, space, line, Pieces, sign, free, name, enclosed_if, first_is, expression_pieces, predicate_pieces, rows_pieces}
use Rattle.hp_model.specs.NotationPrint.{begins_aggregate, aggregate_pieces, binding_pieces, object_pieces, assignment_pieces, more_parts, assignments_pieces, argument_pieces}
use Rattle.hp_model.specs.NotationPrint.{arguments_pieces, is_empty, braced, body_after, is_let, statement_pieces, statements_pieces, body_pieces}
use Rattle.hp_model.specs.NotationLaws.{IsFitExpression, AreFitAssignments, IsFitStatement, IsFitBody, statement_levels, body_levels}
use Rattle.hp_model.proofs.NotationReadings.{bind_ok, stream, size-stream, token_binding, Reading, begins-stream, no_fault, grows_enclosed}
use Rattle.hp_model.proofs.NotationExpressionsRead.{grows_expression, grows_in, any_expression_read, enclosed_expression_read}
use Rattle.hp_model.proofs.NotationPartsRead.{Ends, name_is, rows_read, binding_read, object_read, pairs_read, arguments_read}

-- ---- what may follow a statement

-- a token that goes on with no statement
abbrev IsQuietToken : Token → Type 0
IsQuietToken t =
    (token_binding t < 1) × (is_mark where_mark t ≡ false) × (is_mark set_mark t ≡ false) × (is_mark open_parenthesis t ≡ false) × (is_mark else_mark t ≡ false) × (is_mark otherwise_mark t ≡ false)
    × (is_mark comma t ≡ false) × (is_mark semicolon t ≡ false) × (begins_message t ≡ false)

abbrev pub IsQuiet : Pieces → Type 0
IsQuiet [] = ⊥
IsQuiet (p ∷ k) = IsQuietToken p.token

pub record Quiet (k : Pieces) : Type 0 where
  pub ends : Ends k
  pub no_set : first_is (is_mark set_mark) k ≡ false
  pub no_parenthesis : first_is (is_mark open_parenthesis) k ≡ false
  pub no_else : first_is (is_mark else_mark) k ≡ false
  pub no_otherwise : first_is (is_mark otherwise_mark) k ≡ false
  pub no_comma : first_is (is_mark comma) k ≡ false
  pub no_semicolon : first_is (is_mark semicolon) k ≡ false
  pub no_message : first_is begins_message k ≡ false

quiet_of : (k : Pieces) → IsQuiet k → Quiet k
quiet_of [] q = absurd q
quiet_of (p ∷ k) q = record {
  ends = record { binds = q.0; no_where = q.1 };
  no_set = q.2;
  no_parenthesis = q.3;
  no_else = q.4;
  no_otherwise = q.5;
  no_comma = q.6;
  no_semicolon = q.7;
  no_message = q.8;
}

statement_is_quiet : (s : Statement) (depth : ℕ) (k : Pieces) → IsQuiet (statement_pieces s depth k)
statement_is_quiet (set_object create c e ps) depth k = (omega arith, refl, refl, refl, refl, refl, refl, refl, refl)
statement_is_quiet (set_object update c e ps) depth k = (omega arith, refl, refl, refl, refl, refl, refl, refl, refl)
statement_is_quiet (delete c e) depth k = (omega arith, refl, refl, refl, refl, refl, refl, refl, refl)
statement_is_quiet (signal x es) depth k = (omega arith, refl, refl, refl, refl, refl, refl, refl, refl)
statement_is_quiet (emit e) depth k = (omega arith, refl, refl, refl, refl, refl, refl, refl, refl)
statement_is_quiet (when e b c) depth k = (omega arith, refl, refl, refl, refl, refl, refl, refl, refl)
statement_is_quiet (each r b) depth k = (omega arith, refl, refl, refl, refl, refl, refl, refl, refl)
statement_is_quiet (for_answer x b) depth k = (omega arith, refl, refl, refl, refl, refl, refl, refl, refl)
statement_is_quiet (with_object x c e b) depth k = (omega arith, refl, refl, refl, refl, refl, refl, refl, refl)
statement_is_quiet (with_value x a b) depth k = (omega arith, refl, refl, refl, refl, refl, refl, refl, refl)
statement_is_quiet (subtransaction b c) depth k = (omega arith, refl, refl, refl, refl, refl, refl, refl, refl)
statement_is_quiet abort depth k = (omega arith, refl, refl, refl, refl, refl, refl, refl, refl)
statement_is_quiet veto depth k = (omega arith, refl, refl, refl, refl, refl, refl, refl, refl)
statement_is_quiet (veto_with e) depth k = (omega arith, refl, refl, refl, refl, refl, refl, refl, refl)
statement_is_quiet (on_rule install x) depth k = (omega arith, refl, refl, refl, refl, refl, refl, refl, refl)
statement_is_quiet (on_rule enable x) depth k = (omega arith, refl, refl, refl, refl, refl, refl, refl, refl)
statement_is_quiet (on_rule disable x) depth k = (omega arith, refl, refl, refl, refl, refl, refl, refl, refl)
statement_is_quiet (on_rule remove x) depth k = (omega arith, refl, refl, refl, refl, refl, refl, refl, refl)
statement_is_quiet (on_rule fire x) depth k = (omega arith, refl, refl, refl, refl, refl, refl, refl, refl)

-- a statement or a closing brace follows
pub rest_is_quiet : (b : Body) (depth : ℕ) (gap : Gap) (k : Pieces) → Quiet (statements_pieces b depth (sign gap close_brace k))
rest_is_quiet empty depth gap k = quiet_of (sign gap close_brace k) (omega arith, refl, refl, refl, refl, refl, refl, refl, refl)
rest_is_quiet (◌then◌ s b) depth gap k = quiet_of _ (statement_is_quiet s depth (statements_pieces b depth (sign gap close_brace k)))

-- ---- what a statement writes comes before what follows

grows_assignments : (a : Assignment) (others : List Assignment) (k : Pieces) → length k < length (assignment_pieces a (more_parts assignment_pieces others k))
grows_assignments a [] k = omega (arith, grows_in 5 a.value space k)
grows_assignments a (b ∷ others) k = let one = grows_assignments b others k in omega (arith, grows_in 5 a.value space (sign tight comma (assignment_pieces b (more_parts assignment_pieces others k))))

grows_pairs : (ps : List Assignment) (k : Pieces) → length k ≤ length (assignments_pieces ps k)
grows_pairs [] k = omega arith
grows_pairs (a ∷ others) k = omega (arith, grows_assignments a others k)

grows_more_arguments : (e : Expression) (es : List Expression) (gap : Gap) (k : Pieces) → length k < length (expression_pieces e gap (more_parts argument_pieces es k))
grows_more_arguments e [] gap k = grows_expression e gap k
grows_more_arguments e (x ∷ es) gap k =
    let one = grows_more_arguments x es space k in
    omega (arith, grows_expression e gap (sign tight comma (expression_pieces x space (more_parts argument_pieces es k))))

grows_arguments : (es : List Expression) (k : Pieces) → length k ≤ length (arguments_pieces es k)
grows_arguments [] k = omega arith
grows_arguments (e ∷ es) k = omega (arith, grows_more_arguments e es tight (sign tight close_parenthesis k))

grows_predicate : (e : Expression) (k : Pieces) → length k ≤ length (predicate_pieces e k)
grows_predicate (truth true) k = omega arith
grows_predicate e k = omega (arith, grows_expression e space k)

pub grows_rows : (r : Rows) (k : Pieces) → length k < length (rows_pieces r k)
grows_rows r k = omega (arith, grows_predicate r.predicate k)

grows_aggregate : (a : Aggregate) (k : Pieces) → length k < length (aggregate_pieces a k)
grows_aggregate (count_of r) k = omega (arith, grows_rows r k)
grows_aggregate (fold_of f r e) k = let one = grows_rows r k in omega (arith, grows_expression e space (free space (codes "over") (rows_pieces r k)))
grows_aggregate (next_key c) k = omega arith
grows_aggregate (plain e) k = grows_enclosed (first_is begins_aggregate (expression_pieces e space k)) (expression_pieces e) (grows_expression e) space k

pub grows_binding : (x : List ℕ) (a : Aggregate) (k : Pieces) → length k < length (binding_pieces x a k)
grows_binding x a k = omega (arith, grows_aggregate a k)

grows_object : (c : List ℕ) (e : Expression) (k : Pieces) → length k < length (object_pieces c e k)
grows_object c e k = omega (arith, grows_expression e tight (sign tight close_parenthesis k))

grows_braced : (b : Bool) (depth : ℕ) (f : Pieces → Pieces) (k : Pieces) → ((q : Pieces) → length q ≤ length (f q)) → length k < length (braced b depth f k)
grows_braced true depth f k h = omega arith
grows_braced false depth f k h = omega (arith, h (sign (line depth) close_brace k))

grows_after : (m : Mark) (b : Bool) (f : Pieces → Pieces) (k : Pieces) → length k ≤ length (f k) → length k ≤ length (body_after m b f k)
grows_after m true f k h = omega arith
grows_after m false f k h = omega arith

mutual
  pub grows_statement : (s : Statement) (depth : ℕ) (k : Pieces) → length k < length (statement_pieces s depth k)
  grows_statement (set_object s c e ps) depth k = let one = grows_pairs ps k in omega (arith, grows_object c e (assignments_pieces ps k))
  grows_statement (delete c e) depth k = omega (arith, grows_object c e k)
  grows_statement (signal x es) depth k = omega (arith, grows_arguments es k)
  grows_statement (emit e) depth k = omega (arith, grows_expression e space k)
  grows_statement (when e b c) depth k =
      let last = grows_braced (is_empty c) depth (statements_pieces c (suc depth)) k (grows_statements c (suc depth)) in
      let two = grows_after else_mark (is_empty c) (body_pieces c depth) k (omega arith) in
      let one = grows_braced (is_empty b) depth (statements_pieces b (suc depth)) (body_after else_mark (is_empty c) (body_pieces c depth) k) (grows_statements b (suc depth)) in
      omega (arith, grows_expression e space (body_pieces b depth (body_after else_mark (is_empty c) (body_pieces c depth) k)))
  grows_statement (each r b) depth k =
      let one = grows_braced (is_empty b) depth (statements_pieces b (suc depth)) k (grows_statements b (suc depth)) in
      omega (arith, grows_rows r (body_pieces b depth k))
  grows_statement (for_answer x b) depth k = let one = grows_braced (is_empty b) depth (statements_pieces b (suc depth)) k (grows_statements b (suc depth)) in omega arith
  grows_statement (with_object x c e b) depth k =
      let one = grows_braced (is_empty b) depth (statements_pieces b (suc depth)) k (grows_statements b (suc depth)) in
      omega (arith, grows_object c e (sign space as_mark (name space x (body_pieces b depth k))))
  grows_statement (with_value x a b) depth k =
      let one = grows_braced (is_empty b) depth (statements_pieces b (suc depth)) k (grows_statements b (suc depth)) in
      omega (arith, grows_binding x a (body_pieces b depth k))
  grows_statement (subtransaction b c) depth k =
      let last = grows_braced (is_empty c) depth (statements_pieces c (suc depth)) k (grows_statements c (suc depth)) in
      let two = grows_after otherwise_mark (is_empty c) (body_pieces c depth) k (omega arith) in
      let one = grows_braced (is_empty b) depth (statements_pieces b (suc depth)) (body_after otherwise_mark (is_empty c) (body_pieces c depth) k) (grows_statements b (suc depth)) in
      omega arith
  grows_statement abort depth k = omega arith
  grows_statement veto depth k = omega arith
  grows_statement (veto_with e) depth k = omega (arith, grows_enclosed (first_is is_let (expression_pieces e space k)) (expression_pieces e) (grows_expression e) space k)
  grows_statement (on_rule op x) depth k = omega arith

  grows_statements : (b : Body) (depth : ℕ) (k : Pieces) → length k ≤ length (statements_pieces b depth k)
  grows_statements empty depth k = omega arith
  grows_statements (◌then◌ s b) depth k = let one = grows_statements b depth k in omega (arith, grows_statement s depth (statements_pieces b depth k))

pub grows_body : (b : Body) (depth : ℕ) (k : Pieces) → length k < length (body_pieces b depth k)
grows_body b depth k = grows_braced (is_empty b) depth (statements_pieces b (suc depth)) k (grows_statements b (suc depth))

-- ---- bodies

-- a body follows
pub braced_ends : (b : Bool) (depth : ℕ) (f : Pieces → Pieces) (k : Pieces) → Ends (braced b depth f k)
braced_ends true depth f k = record { binds = omega arith; no_where = refl }
braced_ends false depth f k = record { binds = omega arith; no_where = refl }

record StatementsRead (b : Body) (l turns : ℕ) (ts : Tokens) (k : Pieces) : Type 0 where
  nodes : Nodes
  next : ℕ → ℕ
  same : items_of nodes ≡ body_data b
  reads : statements (statement (bodies_within l)) turns ts ≡ Ok (nodes, stream next k)

abbrev StatementsBy : Body → Type 0
StatementsBy b =
    (l : ℕ) → body_levels b ≤ suc l → (depth : ℕ) (gap : Gap) (k : Pieces) (o : ℕ → ℕ) (turns : ℕ) → length (statements_pieces b depth (sign gap close_brace k)) ≤ turns
    → StatementsRead b l turns (stream o (statements_pieces b depth (sign gap close_brace k))) k

abbrev BodyBy : Body → Type 0
BodyBy b = (l : ℕ) → body_levels b ≤ l → (depth : ℕ) (k : Pieces) (o : ℕ → ℕ) → Reading (bodies_within l).body (array (body_data b)) (stream o (body_pieces b depth k)) k

mutual
  statement_levels_positive : (s : Statement) → 0 < statement_levels s
  statement_levels_positive (when e b c) = omega arith
  statement_levels_positive (each r b) = omega arith
  statement_levels_positive (for_answer x b) = omega arith
  statement_levels_positive (with_object x c e b) = omega arith
  statement_levels_positive (with_value x a b) = omega arith
  statement_levels_positive (subtransaction b c) = omega arith
  statement_levels_positive (set_object s c e ps) = omega arith
  statement_levels_positive (delete c e) = omega arith
  statement_levels_positive (signal x es) = omega arith
  statement_levels_positive (emit e) = omega arith
  statement_levels_positive abort = omega arith
  statement_levels_positive veto = omega arith
  statement_levels_positive (veto_with e) = omega arith
  statement_levels_positive (on_rule op x) = omega arith

  pub body_levels_positive : (b : Body) → 0 < body_levels b
  body_levels_positive empty = omega arith
  body_levels_positive (◌then◌ s b) = let one = body_levels_positive b in omega arith

body_by : (b : Body) → StatementsBy b → BodyBy b
unfolding bodies_within body
body_by b by zero h depth k o = absurd (omega (arith, body_levels_positive b))
body_by empty by (suc l) h depth k o = record { node = T.list (o 0) no_nodes; next = λ i. o (suc (suc i)); same = refl; reads = refl }
body_by (◌then◌ s b) by (suc l) h depth k o =
    let ps = statements_pieces (◌then◌ s b) (suc depth) (sign (line depth) close_brace k) in
    let ts = stream (λ i. o (suc i)) ps in
    let r = by l h (suc depth) (line depth) k (λ i. o (suc i)) (size ts) (omega (arith, size-stream (λ i. o (suc i)) ps)) in
    record {
      node = T.list (o 0) r.nodes;
      next = r.next;
      same = λ i. array (r.same i);
      reads = bind_ok _ _ _ r.reads;
    }

-- ---- bodies that are left out

left_out : (m : Mark) (one : Phrase Node) (k : Pieces) → first_is (is_mark m) k ≡ false → (o : ℕ → ℕ)
    → (elim (begins (is_mark m) (stream o k)) as (λ _. Result (Node × Tokens) ℕ) [ true ↦ one (stream o k) | false ↦ S.empty_list (stream o k) ]) ≡ Ok
    (T.list (place (stream o k)) no_nodes, stream o k)
left_out m one k none o =
    ap (λ b. elim b as (λ _. Result (Node × Tokens) ℕ) [ true ↦ one (stream o k) | false ↦ S.empty_list (stream o k) ]) (begins-stream (is_mark m) k o ∙ none)

else_read : (c : Body) → BodyBy c → (l : ℕ) → body_levels c ≤ l → (depth : ℕ) (k : Pieces) (o : ℕ → ℕ) → first_is (is_mark else_mark) k ≡ false
    → Reading (S.otherwise_of_if (bodies_within l)) (array (body_data c)) (stream o (body_after else_mark (is_empty c) (body_pieces c depth) k)) k
else_read empty by l h depth k o none = record {
  node = T.list (place (stream o k)) no_nodes;
  next = o;
  same = refl;
  reads = left_out else_mark (λ ts. S.else_body (bodies_within l) (place ts) (past ts)) k none o;
}
else_read (◌then◌ s b) by l h depth k o none = let r = by l h depth k (λ i. o (suc i)) in record { node = r.node; next = r.next; same = r.same; reads = r.reads }

otherwise_read : (c : Body) → BodyBy c → (l : ℕ) → body_levels c ≤ l → (depth : ℕ) (k : Pieces) (o : ℕ → ℕ) → first_is (is_mark otherwise_mark) k ≡ false
    → Reading (S.body_after otherwise_mark (bodies_within l).body) (array (body_data c)) (stream o (body_after otherwise_mark (is_empty c) (body_pieces c depth) k)) k
otherwise_read empty by l h depth k o none = record {
  node = T.list (place (stream o k)) no_nodes;
  next = o;
  same = refl;
  reads = left_out otherwise_mark (λ ts. (bodies_within l).body (past ts)) k none o;
}
otherwise_read (◌then◌ s b) by l h depth k o none = let r = by l h depth k (λ i. o (suc i)) in record { node = r.node; next = r.next; same = r.same; reads = r.reads }

-- ---- the message of a veto

-- what is read as an expression, and doesn't begin with `let`, begins a message
message_begins : (ts : Tokens) (r : Node × Tokens) → any_expression ts ≡ Ok r → begins is_let ts ≡ false → begins begins_message ts ≡ true
unfolding expressions_within expression conjunction negation comparison sum product
message_begins (token at (mark not_mark) ts) r e h = refl
message_begins (token at (mark true_mark) ts) r e h = refl
message_begins (token at (mark false_mark) ts) r e h = refl
message_begins (token at (mark new_mark) ts) r e h = refl
message_begins (token at (mark old_mark) ts) r e h = refl
message_begins (token at (mark event_mark) ts) r e h = refl
message_begins (token at (mark open_parenthesis) ts) r e h = refl
message_begins (token at (mark minus_sign) ts) r e h = refl
message_begins (token at (mark m) ts) r e h = absurd (no_fault e)
message_begins (token at (word w) ts) r e h = ap (λ b. elim b as (λ _. Bool) [ true ↦ false | false ↦ true ]) h
message_begins (token at (quoted x) ts) r e h = refl
message_begins (token at (number n) ts) r e h = refl
message_begins (token at (string_token s) ts) r e h = refl
message_begins (ending at) r e h = absurd (no_fault e)
message_begins (unreadable at) r e h = absurd (no_fault e)

veto_phrase : (at : ℕ) (ts : Tokens) (b : Bool) → Result (Node × Tokens) ℕ
veto_phrase at ts b = elim b as (λ _. Result (Node × Tokens) ℕ) [ true ↦ S.of_expression at (codes "veto") ts | false ↦ Ok (form at (codes "veto") [], ts) ]

message_read : (at : ℕ) (e : Expression) → IsFitExpression e → (k : Pieces) → Ends k → (o : ℕ → ℕ) (b : Bool) → first_is is_let (expression_pieces e space k) ≡ b
    → Reading (S.veto at) (form_data (codes "veto") (expression_data e ∷ [])) (stream o (enclosed_if b (expression_pieces e) space k)) k
unfolding veto_phrase
message_read at e w k ends o true is =
    let r = enclosed_expression_read e w.0 w.1 space k o ends.binds in
    record {
      node = form at (codes "veto") (r.node ∷ []);
      next = r.next;
      same = λ i. form_data (codes "veto") (r.same i ∷ []);
      reads = bind_ok _ _ _ r.reads;
    }
message_read at e w k ends o false is =
    let r = any_expression_read e w.0 w.1 space k o ends.binds in
    let ts = stream o (expression_pieces e space k) in
    record {
      node = form at (codes "veto") (r.node ∷ []);
      next = r.next;
      same = λ i. form_data (codes "veto") (r.same i ∷ []);
      reads = ap (veto_phrase at ts) (message_begins ts (r.node, stream r.next k) r.reads (begins-stream is_let (expression_pieces e space k) o ∙ is)) ∙ bind_ok _ _ _ r.reads;
    }

-- ---- statements

abbrev StatementBy : Statement → Type 0
StatementBy s =
    (l : ℕ) → statement_levels s ≤ suc l → (depth : ℕ) (k : Pieces) (o : ℕ → ℕ) → Quiet k
    → Reading (statement (bodies_within l)) (statement_data s) (stream o (statement_pieces s depth k)) k

no_close_first : (s : Statement) (depth : ℕ) (k : Pieces) → first_is (is_mark close_brace) (statement_pieces s depth k) ≡ false
no_close_first (set_object create c e ps) depth k = refl
no_close_first (set_object update c e ps) depth k = refl
no_close_first (delete c e) depth k = refl
no_close_first (signal x es) depth k = refl
no_close_first (emit e) depth k = refl
no_close_first (when e b c) depth k = refl
no_close_first (each r b) depth k = refl
no_close_first (for_answer x b) depth k = refl
no_close_first (with_object x c e b) depth k = refl
no_close_first (with_value x a b) depth k = refl
no_close_first (subtransaction b c) depth k = refl
no_close_first abort depth k = refl
no_close_first veto depth k = refl
no_close_first (veto_with e) depth k = refl
no_close_first (on_rule install x) depth k = refl
no_close_first (on_rule enable x) depth k = refl
no_close_first (on_rule disable x) depth k = refl
no_close_first (on_rule remove x) depth k = refl
no_close_first (on_rule fire x) depth k = refl

setting_read : (at : ℕ) (tag c : List ℕ) (e : Expression) (ps : List Assignment) → IsFitExpression e → AreFitAssignments ps → (k : Pieces) → Quiet k → (o : ℕ → ℕ)
    → Reading (S.setting at tag) (form_data tag (string c ∷ expression_data e ∷ list_data (map assignment_data ps) ∷ [])) (stream o (object_pieces c e (assignments_pieces ps k))) k
setting_read at tag c e ps w v k q o =
    let x = object_read c e w (assignments_pieces ps k) o in
    let y = pairs_read ps v k q.ends.binds q.no_comma q.no_set x.next in
    record {
      node = form at tag (x.class ∷ x.key ∷ y.node ∷ []);
      next = y.next;
      same = λ i. form_data tag (x.same_class i ∷ x.same_key i ∷ y.same i ∷ []);
      reads = bind_ok _ _ _ x.reads ∙ bind_ok _ _ _ y.reads;
    }

semicolon_absent : (k : Pieces) (o : ℕ → ℕ) → first_is (is_mark semicolon) k ≡ false → past_semicolon (stream o k) ≡ stream o k
semicolon_absent k o none = ap (λ b. elim b as (λ _. Tokens) [ true ↦ past (stream o k) | false ↦ stream o k ]) (begins-stream (is_mark semicolon) k o ∙ none)

statements_step : (l turns : ℕ) (ts : Tokens) → Bool → Result (Nodes × Tokens) ℕ
statements_step l turns ts is_end = elim is_end as (λ _. Result (Nodes × Tokens) ℕ) [
  | true ↦ Ok (no_nodes, past ts)
  | false ↦ statement (bodies_within l) ts >>= λ p. statements (statement (bodies_within l)) turns (past_semicolon p.1) >>= λ q. Ok (node p.0 q.0, q.1)
]

mutual
  unfolding statement statements_step

  statement_read : (s : Statement) → IsFitStatement s → StatementBy s
  statement_read (set_object create c e ps) w l h depth k o q =
      let r = setting_read (o 0) (codes "create") c e ps w.1 w.2 k q (λ i. o (suc i)) in record { node = r.node; next = r.next; same = r.same; reads = r.reads }
  statement_read (set_object update c e ps) w l h depth k o q =
      let r = setting_read (o 0) (codes "update") c e ps w.1 w.2 k q (λ i. o (suc i)) in record { node = r.node; next = r.next; same = r.same; reads = r.reads }
  statement_read (delete c e) w l h depth k o q =
      let x = object_read c e w.1 k (λ i. o (suc i)) in
      record {
        node = form (o 0) (codes "delete") (x.class ∷ x.key ∷ []);
        next = x.next;
        same = λ i. form_data (codes "delete") (x.same_class i ∷ x.same_key i ∷ []);
        reads = bind_ok _ _ _ x.reads;
      }
  statement_read (signal x es) w l h depth k o q =
      let r = arguments_read es w.1 k q.no_parenthesis (λ i. o (suc (suc i))) in
      record {
        node = form (o 0) (codes "signal") (T.text (o 1) x ∷ r.node ∷ []);
        next = r.next;
        same = λ i. form_data (codes "signal") (string x ∷ r.same i ∷ []);
        reads = bind_ok _ _ _ (name_is space x (arguments_pieces es k) (λ i. o (suc i))) ∙ bind_ok _ _ _ r.reads;
      }
  statement_read (emit e) w l h depth k o q =
      let r = any_expression_read e w.0 w.1 space k (λ i. o (suc i)) q.ends.binds in
      record {
        node = form (o 0) (codes "emit") (r.node ∷ []);
        next = r.next;
        same = λ i. form_data (codes "emit") (r.same i ∷ []);
        reads = bind_ok _ _ _ r.reads;
      }
  statement_read (when e b c) w l h depth k o q =
      let after = body_after else_mark (is_empty c) (body_pieces c depth) k in
      let ends = braced_ends (is_empty b) depth (statements_pieces b (suc depth)) after in
      let x = any_expression_read e w.0.0 w.0.1 space (body_pieces b depth after) (λ i. o (suc i)) ends.binds in
      let y = body_by b (statements_read b w.1) l (omega arith) depth after x.next in
      let z = else_read c (body_by c (statements_read c w.2)) l (omega arith) depth k y.next q.no_else in
      record {
        node = form (o 0) (codes "if") (x.node ∷ y.node ∷ z.node ∷ []);
        next = z.next;
        same = λ i. form_data (codes "if") (x.same i ∷ y.same i ∷ z.same i ∷ []);
        reads = bind_ok _ _ _ x.reads ∙ bind_ok _ _ _ y.reads ∙ bind_ok _ _ _ z.reads;
      }
  statement_read (each r b) w l h depth k o q =
      let x = rows_read r w.0 (body_pieces b depth k) (braced_ends (is_empty b) depth (statements_pieces b (suc depth)) k) (λ i. o (suc i)) in
      let y = body_by b (statements_read b w.1) l (omega arith) depth k x.next in
      record {
        node = form (o 0) (codes "each") (x.rows.name ∷ x.rows.class ∷ x.rows.predicate ∷ y.node ∷ []);
        next = y.next;
        same = λ i. form_data (codes "each") (x.same_name i ∷ x.same_class i ∷ x.same_predicate i ∷ y.same i ∷ []);
        reads = bind_ok _ _ _ x.reads ∙ bind_ok _ _ _ y.reads;
      }
  statement_read (for_answer x b) w l h depth k o q =
      let y = body_by b (statements_read b w.1) l (omega arith) depth k (λ i. o (suc (suc i))) in
      record {
        node = form (o 0) (codes "for") (T.text (o 1) x ∷ y.node ∷ []);
        next = y.next;
        same = λ i. form_data (codes "for") (string x ∷ y.same i ∷ []);
        reads = bind_ok _ _ _ (name_is space x (body_pieces b depth k) (λ i. o (suc i))) ∙ bind_ok _ _ _ y.reads;
      }
  statement_read (with_object x c e b) w l h depth k o q =
      let r = object_read c e w.2 (sign space as_mark (name space x (body_pieces b depth k))) (λ i. o (suc i)) in
      let rest = λ (i : ℕ). r.next (suc i) in
      let y = body_by b (statements_read b w.3) l (omega arith) depth k (λ i. rest (suc i)) in
      record {
        node = form (o 0) (codes "with") (T.text (rest 0) x ∷ r.class ∷ r.key ∷ y.node ∷ []);
        next = y.next;
        same = λ i. form_data (codes "with") (string x ∷ r.same_class i ∷ r.same_key i ∷ y.same i ∷ []);
        reads = bind_ok _ _ _ r.reads ∙ bind_ok _ _ _ (name_is space x (body_pieces b depth k) rest) ∙ bind_ok _ _ _ y.reads;
      }
  statement_read (with_value x a b) w l h depth k o q =
      let r = binding_read x a w.1 (body_pieces b depth k) (braced_ends (is_empty b) depth (statements_pieces b (suc depth)) k) (λ i. o (suc i)) in
      let y = body_by b (statements_read b w.2) l (omega arith) depth k r.next in
      record {
        node = form (o 0) (codes "let") (r.name ∷ r.value ∷ y.node ∷ []);
        next = y.next;
        same = λ i. form_data (codes "let") (r.same_name i ∷ r.same_value i ∷ y.same i ∷ []);
        reads = bind_ok _ _ _ r.reads ∙ bind_ok _ _ _ y.reads;
      }
  statement_read (subtransaction b c) w l h depth k o q =
      let y = body_by b (statements_read b w.0) l (omega arith) depth (body_after otherwise_mark (is_empty c) (body_pieces c depth) k) (λ i. o (suc i)) in
      let z = otherwise_read c (body_by c (statements_read c w.1)) l (omega arith) depth k y.next q.no_otherwise in
      record {
        node = form (o 0) (codes "sub") (y.node ∷ z.node ∷ []);
        next = z.next;
        same = λ i. form_data (codes "sub") (y.same i ∷ z.same i ∷ []);
        reads = bind_ok _ _ _ y.reads ∙ bind_ok _ _ _ z.reads;
      }
  statement_read abort w l h depth k o q = record { node = form (o 0) (codes "abort") []; next = λ i. o (suc i); same = refl; reads = refl }
  statement_read veto w l h depth k o q = record {
    node = form (o 0) (codes "veto") [];
    next = λ i. o (suc i);
    same = refl;
    reads = ap (λ b. elim b as (λ _. Result (Node × Tokens) ℕ) [
      | true ↦ S.of_expression (o 0) (codes "veto") (stream (λ i. o (suc i)) k)
      | false ↦ Ok (form (o 0) (codes "veto") [], stream (λ i. o (suc i)) k)
    ]) (begins-stream begins_message k (λ i. o (suc i)) ∙ q.no_message);
  }
  statement_read (veto_with e) w l h depth k o q =
      let r = message_read (o 0) e w k q.ends (λ i. o (suc i)) (first_is is_let (expression_pieces e space k)) refl in
      record { node = r.node; next = r.next; same = r.same; reads = r.reads }
  statement_read (on_rule install x) w l h depth k o q = record {
    node = form (o 0) (codes "install") (T.text (o 1) x ∷ []);
    next = λ i. o (suc (suc i));
    same = refl;
    reads = bind_ok _ _ _ (name_is space x k (λ i. o (suc i)));
  }
  statement_read (on_rule enable x) w l h depth k o q = record {
    node = form (o 0) (codes "enable") (T.text (o 1) x ∷ []);
    next = λ i. o (suc (suc i));
    same = refl;
    reads = bind_ok _ _ _ (name_is space x k (λ i. o (suc i)));
  }
  statement_read (on_rule disable x) w l h depth k o q = record {
    node = form (o 0) (codes "disable") (T.text (o 1) x ∷ []);
    next = λ i. o (suc (suc i));
    same = refl;
    reads = bind_ok _ _ _ (name_is space x k (λ i. o (suc i)));
  }
  statement_read (on_rule remove x) w l h depth k o q = record {
    node = form (o 0) (codes "remove") (T.text (o 1) x ∷ []);
    next = λ i. o (suc (suc i));
    same = refl;
    reads = bind_ok _ _ _ (name_is space x k (λ i. o (suc i)));
  }
  statement_read (on_rule fire x) w l h depth k o q = record {
    node = form (o 0) (codes "fire") (T.text (o 1) x ∷ []);
    next = λ i. o (suc (suc i));
    same = refl;
    reads = bind_ok _ _ _ (name_is space x k (λ i. o (suc i)));
  }

  statements_read : (b : Body) → IsFitBody b → StatementsBy b
  statements_read empty w l h depth gap k o zero small = absurd (omega arith)
  statements_read empty w l h depth gap k o (suc turns) small = record { nodes = no_nodes; next = λ i. o (suc i); same = refl; reads = refl }
  statements_read (◌then◌ s b) w l h depth gap k o zero small = absurd (omega (arith, grows_statement s depth (statements_pieces b depth (sign gap close_brace k))))
  statements_read (◌then◌ s b) w l h depth gap k o (suc turns) small =
      let rest = statements_pieces b depth (sign gap close_brace k) in
      let quiet = rest_is_quiet b depth gap k in
      let r = statement_read s w.0 l (omega arith) depth rest o quiet in
      let others = statements_read b w.1 l (omega arith) depth gap k r.next turns (omega (arith, grows_statement s depth rest)) in
      record {
        nodes = node r.node others.nodes;
        next = others.next;
        same = λ i. item (r.same i) (others.same i);
        reads = ap (statements_step l turns (stream o (statement_pieces s depth rest))) (begins-stream (is_mark close_brace) (statement_pieces s depth rest) o ∙ no_close_first s depth rest)
            ∙ bind_ok _ _ _ r.reads
            ∙ ap (λ ts. statements (statement (bodies_within l)) turns ts >>= λ q. Ok (node r.node q.0, q.1)) (semicolon_absent rest r.next quiet.no_semicolon)
            ∙ bind_ok _ _ _ others.reads;
      }

-- the body of a transaction or of a rule's action
pub any_body_read : (b : Body) → IsFitBody b → body_levels b ≤ 64 → (depth : ℕ) (k : Pieces) (o : ℕ → ℕ) → Reading any_body (array (body_data b)) (stream o (body_pieces b depth k)) k
any_body_read b w h = body_by b (statements_read b w) 64 h
