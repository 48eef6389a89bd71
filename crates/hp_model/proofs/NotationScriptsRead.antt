-- The canonical text of a script is read as the script.
use Rattle.std.proofs.Common.{◌≡◌, refl, ap, ◌∙◌, ℕ, suc, ◌<◌, ◌≤◌, ◌^◌, pos, negsuc, Bool, true, false, ◌&&◌, List, [], ◌∷◌, length, map, codes, Option, Some, None, Result, Ok, arith}
use Rattle.std.specs.Prelude.{bytes_eq}
use Rattle.std.proofs.lemmas.Bool.{lt-ltb}
use Rattle.serde_json.specs.Data.{Data, string, array, Items, item as data_item}
use Rattle.hp_model.specs.Values.{◌>>=◌, Kind, integer_kind, boolean_kind, text_kind}
use Rattle.hp_model.specs.Rules.{Coupling, immediate, deferred, separate, dependent, exclusive}
use Rattle.hp_model.specs.Report.{coupling_word}
use Rattle.hp_model.specs.NotationTokens.{on_mark, if_mark, do_mark, open_brace, close_brace, colon, comma, Token, mark, word, quoted, number, string as string_token, Tokens, token, place, size}
use Rattle.hp_model.specs.NotationTree as T
use Rattle.hp_model.specs.NotationTree.{Node, Nodes, no_nodes, data_of, items_of, form, Phrase, root_data}
use Rattle.hp_model.specs.NotationPhrases as P
use Rattle.hp_model.specs.NotationPhrases.{is_mark, is_word, begins, past, passed, repeated}
use Rattle.hp_model.specs.NotationStatements as S
use Rattle.hp_model.specs.NotationStatements.{any_body}
use Rattle.hp_model.specs.NotationEvents.{any_event}
use Rattle.hp_model.specs.NotationScripts as R
use Rattle.hp_model.specs.NotationScripts.{kind, field, is_name, class, is_mode, mode_at, mode, query, condition, closed, rule, item, is_item, all, script, has_let, is_let}
use Rattle.hp_model.specs.NotationForms as F
use Rattle.hp_model.specs.NotationForms.{Rows, rows_data, Query, some_rows, no_rows, named_value, query_data, Field, kind_word, field_data, Class, class_data, Rule, closed_data}
use Rattle.hp_model.specs.NotationForms.{rule_data, Item, transaction, clock, item_data, Script, event_data, body_data, form_data, list_data, natural_data, items}
use Rattle.hp_model.specs.NotationPrint.{Gap, tight, space, line, paragraph, Pieces, sign, free, name, natural, first_is, each_part, more_parts, binding_pieces, query_pieces}
use Rattle.hp_model.specs.NotationPrint.{event_pieces, body_pieces, braced, is_empty, statements_pieces, field_pieces, fields_pieces, class_pieces, later_class_pieces}
use Rattle.hp_model.specs.NotationPrint.{classes_pieces, mode_pieces, closed_pieces, condition_pieces, rule_pieces, item_pieces, later_item_pieces, depth_pieces, script_pieces}
use Rattle.hp_model.specs.NotationPrint.{at_gap}
use Rattle.hp_model.specs.NotationLaws.{IsFitQuery, IsFitRule, IsFitItem, IsFitDepth, IsFitScript, EachIs}
use Rattle.hp_model.proofs.NotationReadings.{bind_ok, stream, size-stream, Reading, name_cases, begins-stream, RepeatsBy, repeats_none, repeats_more, ListsBy, lists_one, lists_more}
use Rattle.hp_model.proofs.NotationEventsRead.{joins_events, grows_event, any_event_read}
use Rattle.hp_model.proofs.NotationPartsRead.{Ends, name_is, rows_read, binding_read}
use Rattle.hp_model.proofs.NotationStatementsRead.{grows_rows, grows_binding, grows_body, any_body_read}

-- ---- classes

field_read : (f : Field) (k : Pieces) (o : ℕ → ℕ) → Reading field (field_data f) (stream o (field_pieces f k)) k
field_read f k o = go f.kind
  where
    go : (t : Kind) → Reading field (list_data (string f.name ∷ string (kind_word t) ∷ [])) (stream o (name space f.name (sign tight colon (free space (kind_word t) k)))) k
    go integer_kind = record {
      node = T.list (o 0) (T.nodes (T.text (o 0) f.name ∷ T.text (o 2) (codes "int") ∷ []));
      next = λ i. o (suc (suc (suc i)));
      same = refl;
      reads = bind_ok _ _ _ (name_is space f.name (sign tight colon (free space (codes "int") k)) o);
    }
    go boolean_kind = record {
      node = T.list (o 0) (T.nodes (T.text (o 0) f.name ∷ T.text (o 2) (codes "bool") ∷ []));
      next = λ i. o (suc (suc (suc i)));
      same = refl;
      reads = bind_ok _ _ _ (name_is space f.name (sign tight colon (free space (codes "bool") k)) o);
    }
    go text_kind = record {
      node = T.list (o 0) (T.nodes (T.text (o 0) f.name ∷ T.text (o 2) (codes "text") ∷ []));
      next = λ i. o (suc (suc (suc i)));
      same = refl;
      reads = bind_ok _ _ _ (name_is space f.name (sign tight colon (free space (codes "text") k)) o);
    }

fields_listed : (f : Field) (fs : List Field) (k : Pieces) → first_is (is_mark comma) k ≡ false → ListsBy field (map field_data (f ∷ fs)) (field_pieces f (more_parts field_pieces fs k)) k
fields_listed f [] k none = lists_one field (field_data f) (field_pieces f k) k none (omega arith) (field_read f k)
fields_listed f (g ∷ fs) k none =
    let qs = field_pieces g (more_parts field_pieces fs k) in
    lists_more field (field_data f) (map field_data (g ∷ fs)) (field_pieces f (sign tight comma qs)) qs k (omega arith) (field_read f (sign tight comma qs)) (fields_listed g fs k none)

name_begins : (x : List ℕ) (gap : Gap) (k : Pieces) (o : ℕ → ℕ) → begins is_name (stream o (name gap x k)) ≡ true
name_begins x gap k o = name_cases x (λ t. begins is_name (stream o (at_gap gap t k)) ≡ true) refl refl

fields_phrase : (at : ℕ) (ts : Tokens) → Bool → Result (Node × Tokens) ℕ
fields_phrase at ts b = elim b as (λ _. Result (Node × Tokens) ℕ) [ true ↦ S.list_of_parts at field ts | false ↦ Ok (T.list at no_nodes, ts) ]

some_fields_read : (at : ℕ) (f : Field) (fs : List Field) (k : Pieces) (o : ℕ → ℕ)
    → Reading (R.fields at) (list_data (map field_data (f ∷ fs))) (stream o (fields_pieces (f ∷ fs) k)) (sign space close_brace k)
unfolding fields_phrase
some_fields_read at f fs k o =
    let after = sign space close_brace k in
    let ps = field_pieces f (more_parts field_pieces fs after) in
    let r = fields_listed f fs after refl o (size (stream o ps)) (omega (arith, size-stream o ps)) in
    record {
      node = T.list at r.nodes;
      next = r.next;
      same = λ i. array (r.same i);
      reads = ap (fields_phrase at (stream o ps)) (name_begins f.name space (sign tight colon (free space (kind_word f.kind) (more_parts field_pieces fs after))) o) ∙ bind_ok _ _ _ r.reads;
    }

class_read : (c : Class) (gap : Gap) (k : Pieces) (o : ℕ → ℕ) → Reading class (class_data c) (stream o (class_pieces c gap k)) k
unfolding class
class_read c gap k o = go c.fields
  where
    go : (fs : List Field) → Reading class (list_data (string c.name ∷ list_data (map field_data fs) ∷ []))
        (stream o (free gap (codes "class") (name space c.name (sign space open_brace (fields_pieces fs k))))) k
    go [] = record {
      node = T.list (o 0) (T.nodes (T.text (o 1) c.name ∷ T.list (o 2) no_nodes ∷ []));
      next = λ i. o (suc (suc (suc (suc i))));
      same = refl;
      reads = bind_ok _ _ _ (name_is space c.name (sign space open_brace (sign tight close_brace k)) (λ i. o (suc i)));
    }
    go (f ∷ fs) =
        let x = name_is space c.name (sign space open_brace (fields_pieces (f ∷ fs) k)) (λ i. o (suc i)) in
        let r = some_fields_read (o 2) f fs k (λ i. o (suc (suc (suc i)))) in
        record {
          node = T.list (o 0) (T.nodes (T.text (o 1) c.name ∷ r.node ∷ []));
          next = λ i. r.next (suc i);
          same = λ i. list_data (string c.name ∷ r.same i ∷ []);
          reads = bind_ok _ _ _ x ∙ bind_ok _ _ _ r.reads;
        }

grows_fields : (fs : List Field) (k : Pieces) → length k ≤ length (each_part (λ x others. sign tight comma (field_pieces x others)) fs k)
grows_fields [] k = omega arith
grows_fields (f ∷ fs) k = let one = grows_fields fs k in omega arith

grows_class : (c : Class) (gap : Gap) (k : Pieces) → length k < length (class_pieces c gap k)
grows_class c gap k = go c.fields
  where
    go : (fs : List Field) → length k < length (free gap (codes "class") (name space c.name (sign space open_brace (fields_pieces fs k))))
    go [] = omega arith
    go (f ∷ fs) = omega (arith, grows_fields fs (sign space close_brace k))

later_classes_read : (cs : List Class) (k : Pieces) → first_is (is_word (codes "class")) k ≡ false → RepeatsBy (is_word (codes "class")) class (map class_data cs) (each_part later_class_pieces cs k) k
later_classes_read [] k none = repeats_none (is_word (codes "class")) class k none
later_classes_read (c ∷ cs) k none =
    let qs = each_part later_class_pieces cs k in
    repeats_more (is_word (codes "class")) class (class_data c) (map class_data cs) (class_pieces c (line 0) qs) qs k refl (grows_class c (line 0) qs)
    (class_read c (line 0) qs) (later_classes_read cs k none)

classes_read : (cs : List Class) (k : Pieces) → first_is (is_word (codes "class")) k ≡ false → RepeatsBy (is_word (codes "class")) class (map class_data cs) (classes_pieces cs k) k
classes_read [] k none = repeats_none (is_word (codes "class")) class k none
classes_read (c ∷ cs) k none =
    let qs = each_part later_class_pieces cs k in
    repeats_more (is_word (codes "class")) class (class_data c) (map class_data cs) (class_pieces c paragraph qs) qs k refl (grows_class c paragraph qs)
    (class_read c paragraph qs) (later_classes_read cs k none)

-- ---- modes

is_mode_token : Token → Bool
is_mode_token (mark m) = is_mode m
is_mode_token t = false

no_mode : (k : Pieces) (o : ℕ → ℕ) → first_is is_mode_token k ≡ false → mode (stream o k) ≡ (T.text (place (stream o k)) (codes "immediate"), stream o k)
unfolding is_mode_token
no_mode [] o h = refl
no_mode (p ∷ k) o h = go p.token h
  where
    go : (t : Token) → is_mode_token t ≡ false → mode (token (o 0) t (stream (λ i. o (suc i)) k)) ≡ (T.text (o 0) (codes "immediate"), token (o 0) t (stream (λ i. o (suc i)) k))
    go (mark m) h = ap (λ b. mode_at (o 0) m b (token (o 0) (mark m) (stream (λ i. o (suc i)) k)) (stream (λ i. o (suc i)) k)) h
    go (word w) h = refl
    go (quoted x) h = refl
    go (number n) h = refl
    go (string_token s) h = refl

record ModeRead (m : Coupling) (ts : Tokens) (k : Pieces) : Type 0 where
  node : Node
  next : ℕ → ℕ
  same : data_of node ≡ string (coupling_word m)
  reads : mode ts ≡ (node, stream next k)

mode_read : (m : Coupling) (k : Pieces) (o : ℕ → ℕ) → first_is is_mode_token k ≡ false → ModeRead m (stream o (mode_pieces m k)) k
mode_read immediate k o h = record { node = T.text (place (stream o k)) (codes "immediate"); next = o; same = refl; reads = no_mode k o h }
mode_read deferred k o h = record { node = T.text (o 0) (codes "deferred"); next = λ i. o (suc i); same = refl; reads = refl }
mode_read separate k o h = record { node = T.text (o 0) (codes "separate"); next = λ i. o (suc i); same = refl; reads = refl }
mode_read dependent k o h = record { node = T.text (o 0) (codes "dependent"); next = λ i. o (suc i); same = refl; reads = refl }
mode_read exclusive k o h = record { node = T.text (o 0) (codes "exclusive"); next = λ i. o (suc i); same = refl; reads = refl }

-- ---- conditions

is_let_same : (n : Node) (x : List ℕ) → data_of n ≡ string x → is_let n ≡ bytes_eq x (codes "let")
is_let_same (T.integer at (pos n)) x e = cc
is_let_same (T.integer at (negsuc n)) x e = cc
is_let_same (T.truth at b) x e = cc
is_let_same (T.text at s) x e = let same : s ≡ x = cc in ap (λ l. bytes_eq l (codes "let")) same
is_let_same (T.list at ns) x e = cc

rows_list : (r : Rows) (n : S.Rows) → data_of n.name ≡ string r.name → data_of n.class ≡ string r.class → data_of n.predicate ≡ F.expression_data r.predicate
    → list_data (data_of n.name ∷ data_of n.class ∷ data_of n.predicate ∷ []) ≡ list_data (rows_data r)
rows_list r n p q s = λ i. list_data (p i ∷ q i ∷ s i ∷ [])

query_read : (lets : Bool) (q : Query) → IsFitQuery lets q → (k : Pieces) → Ends k → (o : ℕ → ℕ) → Reading (query lets) (query_data q) (stream o (query_pieces q k)) k
query_read lets (some_rows r) w k ends o =
    let n = rows_read r w.0 k ends (λ i. o (suc i)) in
    let not_misread : (lets && is_let n.rows.name) ≡ false = ap (λ b. lets && b) (is_let_same n.rows.name r.name n.same_name) ∙ w.1 in
    record {
      node = T.list (o 0) (T.nodes (S.parts_of_rows n.rows));
      next = n.next;
      same = rows_list r n.rows n.same_name n.same_class n.same_predicate;
      reads = bind_ok _ _ _ n.reads ∙ ap (R.some_rows (o 0) n.rows (stream n.next k)) not_misread;
    }
query_read lets (no_rows r) w k ends o =
    let n = rows_read r w k ends (λ i. o (suc i)) in
    record {
      node = form (o 0) (codes "no") (S.parts_of_rows n.rows);
      next = n.next;
      same = λ i. form_data (codes "no") (n.same_name i ∷ n.same_class i ∷ n.same_predicate i ∷ []);
      reads = bind_ok _ _ _ n.reads;
    }
query_read lets (named_value x a) w k ends o =
    let r = binding_read x a w.2 k ends (λ i. o (suc i)) in
    record {
      node = form (o 0) (codes "let") (r.name ∷ r.value ∷ []);
      next = r.next;
      same = λ i. form_data (codes "let") (r.same_name i ∷ r.same_value i ∷ []);
      reads = ap (λ b. R.named_value (o 0) b (stream (λ i. o (suc i)) (binding_pieces x a k))) w.0 ∙ bind_ok _ _ _ r.reads;
    }

condition_read : (lets : Bool) (q : Query) → IsFitQuery lets q → (k : Pieces) → Ends k → (o : ℕ → ℕ) → Reading (condition lets) (query_data q) (stream o (condition_pieces q k)) k
unfolding condition
condition_read lets q w k ends o = let r = query_read lets q w k ends (λ i. o (suc i)) in record { node = r.node; next = r.next; same = r.same; reads = r.reads }

grows_query : (q : Query) (k : Pieces) → length k < length (query_pieces q k)
grows_query (some_rows r) k = omega (arith, grows_rows r k)
grows_query (no_rows r) k = omega (arith, grows_rows r k)
grows_query (named_value x a) k = omega (arith, grows_binding x a k)

-- an `if` or the word `do` follows
conditions_end : (qs : List Query) (k : Pieces) → Ends (each_part condition_pieces qs (sign (line 1) do_mark k))
conditions_end [] k = record { binds = omega arith; no_where = refl }
conditions_end (q ∷ qs) k = record { binds = omega arith; no_where = refl }

conditions_read : (lets : Bool) (qs : List Query) → EachIs (IsFitQuery lets) qs → (k : Pieces)
    → RepeatsBy (is_mark if_mark) (condition lets) (map query_data qs) (each_part condition_pieces qs (sign (line 1) do_mark k)) (sign (line 1) do_mark k)
conditions_read lets [] w k = repeats_none (is_mark if_mark) (condition lets) (sign (line 1) do_mark k) refl
conditions_read lets (q ∷ qs) w k =
    let rest = each_part condition_pieces qs (sign (line 1) do_mark k) in
    repeats_more (is_mark if_mark) (condition lets) (query_data q) (map query_data qs) (condition_pieces q rest) rest (sign (line 1) do_mark k) refl (omega (arith, grows_query q rest))
    (condition_read lets q w.0 rest (conditions_end qs k)) (conditions_read lets qs w.1 k)

-- ---- rules

modes_end : (qs : List Query) (k : Pieces) → first_is is_mode_token (each_part condition_pieces qs (sign (line 1) do_mark k)) ≡ false
unfolding is_mode_token
modes_end [] k = refl
modes_end (q ∷ qs) k = refl

event_ends : (m : Coupling) (qs : List Query) (k : Pieces) → first_is joins_events (mode_pieces m (each_part condition_pieces qs (sign (line 1) do_mark k))) ≡ false
event_ends immediate [] k = refl
event_ends immediate (q ∷ qs) k = refl
event_ends deferred qs k = refl
event_ends separate qs k = refl
event_ends dependent qs k = refl
event_ends exclusive qs k = refl

body_no_mode : (b : Bool) (depth : ℕ) (f : Pieces → Pieces) (k : Pieces) → first_is is_mode_token (braced b depth f k) ≡ false
unfolding is_mode_token
body_no_mode true depth f k = refl
body_no_mode false depth f k = refl

-- the parts of a rule after its first mode, and after the second
after_action_mode : (at : ℕ) (x e m qs : Node) → List Node → Node × Tokens → Result (Node × Tokens) ℕ
after_action_mode at x e m qs c k = any_body k.1 >>= λ b. Ok (T.list at (T.nodes (x ∷ e ∷ m ∷ qs ∷ k.0 ∷ b.0 ∷ c)), b.1)

after_event_mode : (lets : Bool) (at : ℕ) (x e : Node) → List Node → Node × Tokens → Result (Node × Tokens) ℕ
unfolding after_action_mode
after_event_mode lets at x e c m =
    repeated (is_mark if_mark) (condition lets) (size m.1) m.1 >>= λ qs. passed (is_mark do_mark) qs.1 >>= λ rest. after_action_mode at x e m.0 (T.list (place m.1) qs.0) c (mode rest)

module _ (lets : Bool) (r : Rule) (w : IsFitRule lets r) (k : Pieces) where
  abbrev action_part : Pieces
  action_part = body_pieces r.action 1 k

  abbrev do_part : Pieces
  do_part = mode_pieces r.action_mode action_part

  abbrev if_part : Pieces
  if_part = each_part condition_pieces r.condition (sign (line 1) do_mark do_part)

  abbrev event_part : Pieces
  event_part = event_pieces r.event space (mode_pieces r.event_mode if_part)

  abbrev rule_data_with : List Data → Data
  rule_data_with c =
      list_data (string r.name ∷ event_data r.event ∷ string (coupling_word r.event_mode) ∷ list_data (map query_data r.condition) ∷ string (coupling_word r.action_mode)
      ∷ array (body_data r.action) ∷ c)

  record RestRead (at : ℕ) (x : Node) (c : List Node) (ds : List Data) (ts : Tokens) : Type 0 where
    node : Node
    next : ℕ → ℕ
    same : data_of x ≡ string r.name → items_of (T.nodes c) ≡ items ds → data_of node ≡ rule_data_with ds
    reads : (any_event ts >>= λ e. after_event_mode lets at x e.0 c (mode e.1)) ≡ Ok (node, stream next k)

  rest_read : (at : ℕ) (x : Node) (c : List Node) (ds : List Data) (o : ℕ → ℕ) → RestRead at x c ds (stream o event_part)
  unfolding after_event_mode after_action_mode
  rest_read at x c ds o =
      let e = any_event_read r.event w.event w.event_levels space (mode_pieces r.event_mode if_part) o (event_ends r.event_mode r.condition do_part) in
      let m = mode_read r.event_mode if_part e.next (modes_end r.condition do_part) in
      let qs = conditions_read lets r.condition w.condition do_part m.next (size (stream m.next if_part)) (omega (arith, size-stream m.next if_part)) in
      let a = mode_read r.action_mode action_part (λ i. qs.next (suc i)) (body_no_mode (is_empty r.action) 1 (statements_pieces r.action 2) k) in
      let b = any_body_read r.action w.action w.action_levels 1 k a.next in
      let conditions = T.list (place (stream m.next if_part)) qs.nodes in
      record {
        node = T.list at (T.nodes (x ∷ e.node ∷ m.node ∷ conditions ∷ a.node ∷ b.node ∷ c));
        next = b.next;
        same = λ p q i. list_data_with (p i) (e.same i) (m.same i) (array (qs.same i)) (a.same i) (b.same i) (q i);
        reads = bind_ok _ _ _ e.reads ∙ ap (after_event_mode lets at x e.node c) m.reads ∙ bind_ok _ _ _ qs.reads
            ∙ ap (after_action_mode at x e.node m.node conditions c) a.reads ∙ bind_ok _ _ _ b.reads;
      }
    where
      list_data_with : (x e m q a b : Data) → Items → Data
      list_data_with x e m q a b c = array (data_item x (data_item e (data_item m (data_item q (data_item a (data_item b c))))))

rule_read : (lets : Bool) (r : Rule) → IsFitRule lets r → (k : Pieces) (o : ℕ → ℕ) → Reading (rule lets) (rule_data r) (stream o (rule_pieces r k)) k
unfolding rule after_event_mode after_action_mode
rule_read lets r w k o = go r.is_closed
  where
    go : (c : Bool) → Reading (rule lets) (rule_data_with lets r w k (closed_data c))
        (stream o (free paragraph (codes "rule") (name space r.name (closed_pieces c (sign space on_mark (event_part lets r w k)))))) k
    go true =
        let x = name_is space r.name (closed_pieces true (sign space on_mark (event_part lets r w k))) (λ i. o (suc i)) in
        let rest = rest_read lets r w k (o 0) (T.text (o 1) r.name) (T.text (o 2) (codes "closed") ∷ []) (closed_data true) (λ i. o (suc (suc (suc (suc i))))) in
        record { node = rest.node; next = rest.next; same = rest.same refl refl; reads = bind_ok _ _ _ x ∙ rest.reads }
    go false =
        let x = name_is space r.name (closed_pieces false (sign space on_mark (event_part lets r w k))) (λ i. o (suc i)) in
        let rest = rest_read lets r w k (o 0) (T.text (o 1) r.name) [] (closed_data false) (λ i. o (suc (suc (suc i)))) in
        record { node = rest.node; next = rest.next; same = rest.same refl refl; reads = bind_ok _ _ _ x ∙ rest.reads }

grows_mode : (m : Coupling) (k : Pieces) → length k ≤ length (mode_pieces m k)
grows_mode immediate k = omega arith
grows_mode deferred k = omega arith
grows_mode separate k = omega arith
grows_mode dependent k = omega arith
grows_mode exclusive k = omega arith

grows_conditions : (qs : List Query) (k : Pieces) → length k ≤ length (each_part condition_pieces qs k)
grows_conditions [] k = omega arith
grows_conditions (q ∷ qs) k = let one = grows_conditions qs k in omega (arith, grows_query q (each_part condition_pieces qs k))

grows_closed : (c : Bool) (k : Pieces) → length k ≤ length (closed_pieces c k)
grows_closed true k = omega arith
grows_closed false k = omega arith

grows_rule : (r : Rule) (k : Pieces) → length k < length (rule_pieces r k)
grows_rule r k =
    let action = body_pieces r.action 1 k in
    let do_part = mode_pieces r.action_mode action in
    let if_part = each_part condition_pieces r.condition (sign (line 1) do_mark do_part) in
    let modes = mode_pieces r.event_mode if_part in
    let events = event_pieces r.event space modes in
    let a = grows_body r.action 1 k in
    let b = grows_mode r.action_mode action in
    let c = grows_conditions r.condition (sign (line 1) do_mark do_part) in
    let d = grows_mode r.event_mode if_part in
    let e = grows_event r.event space modes in
    let f = grows_closed r.is_closed (sign space on_mark events) in
    omega arith

rules_read : (lets : Bool) (rs : List Rule) → EachIs (IsFitRule lets) rs → (k : Pieces) → first_is (is_word (codes "rule")) k ≡ false
    → RepeatsBy (is_word (codes "rule")) (rule lets) (map rule_data rs) (each_part rule_pieces rs k) k
rules_read lets [] w k none = repeats_none (is_word (codes "rule")) (rule lets) k none
rules_read lets (r ∷ rs) w k none =
    let qs = each_part rule_pieces rs k in
    repeats_more (is_word (codes "rule")) (rule lets) (rule_data r) (map rule_data rs) (rule_pieces r qs) qs k refl (grows_rule r qs) (rule_read lets r w.0 qs) (rules_read lets rs w.1 k none)

-- ---- items

natural_is : (gap : Gap) (n : ℕ) (k : Pieces) (o : ℕ → ℕ) → n < 2 ^ 63 → P.natural (stream o (natural gap n k)) ≡ Ok (T.integer (o 0) (pos n), stream (λ i. o (suc i)) k)
natural_is gap n k o h = ap (P.number_at (o 0) n (stream (λ i. o (suc i)) k)) (lt-ltb n (2 ^ 63) h)

pub item_read : (i : Item) → IsFitItem i → (gap : Gap) (k : Pieces) (o : ℕ → ℕ) → Reading item (item_data i) (stream o (item_pieces i gap k)) k
unfolding item
item_read (transaction b) w gap k o =
    let r = any_body_read b w.0 w.1 0 k (λ i. o (suc i)) in
    record { node = form (o 0) (codes "tx") (r.node ∷ []); next = r.next; same = λ i. form_data (codes "tx") (r.same i ∷ []); reads = bind_ok _ _ _ r.reads }
item_read (clock t) w gap k o = record {
  node = form (o 0) (codes "clock") (T.integer (o 1) (pos t) ∷ []);
  next = λ i. o (suc (suc i));
  same = refl;
  reads = bind_ok _ _ _ (natural_is space t k (λ i. o (suc i)) w);
}

grows_item : (i : Item) (gap : Gap) (k : Pieces) → length k < length (item_pieces i gap k)
grows_item (transaction b) gap k = let one = grows_body b 0 k in omega arith
grows_item (clock t) gap k = omega arith

item_begins : (i : Item) (k : Pieces) → first_is is_item (later_item_pieces i k) ≡ true
item_begins (transaction b) k = refl
item_begins (clock t) k = refl

items_read : (is : List Item) → EachIs IsFitItem is → RepeatsBy is_item item (map item_data is) (each_part later_item_pieces is []) []
items_read [] w = repeats_none is_item item [] refl
items_read (i ∷ is) w =
    let qs = each_part later_item_pieces is [] in
    repeats_more is_item item (item_data i) (map item_data is) (later_item_pieces i qs) qs [] (item_begins i qs) (grows_item i paragraph qs) (item_read i w.0 paragraph qs) (items_read is w.1)

-- ---- scripts

all_read : (begins_part : Token → Bool) (part : Phrase Node) (ds : List Data) (ps k : Pieces) → RepeatsBy begins_part part ds ps k → (o : ℕ → ℕ)
    → Reading (all begins_part part) (list_data ds) (stream o ps) k
all_read begins_part part ds ps k by o =
    let r = by o (size (stream o ps)) (omega (arith, size-stream o ps)) in
    record { node = T.list (place (stream o ps)) r.nodes; next = r.next; same = λ i. array (r.same i); reads = bind_ok _ _ _ r.reads }

abbrev IsOther : List ℕ → Pieces → Type 0
IsOther w k = first_is (is_word w) k ≡ false

items_other : (is : List Item) → IsOther (codes "class") (each_part later_item_pieces is []) × IsOther (codes "rule") (each_part later_item_pieces is [])
    × IsOther (codes "depth") (each_part later_item_pieces is [])
items_other [] = (refl, refl, refl)
items_other (transaction b ∷ is) = (refl, refl, refl)
items_other (clock t ∷ is) = (refl, refl, refl)

rules_other : (rs : List Rule) (is : List Item)
    → IsOther (codes "class") (each_part rule_pieces rs (each_part later_item_pieces is [])) × IsOther (codes "depth") (each_part rule_pieces rs (each_part later_item_pieces is []))
rules_other [] is = let h = items_other is in (h.0, h.2)
rules_other (r ∷ rs) is = (refl, refl)

classes_other : (cs : List Class) (k : Pieces) → IsOther (codes "depth") k → IsOther (codes "depth") (classes_pieces cs k)
classes_other [] k h = h
classes_other (c ∷ cs) k h = refl

record DepthRead (d : Option ℕ) (ts : Tokens) (k : Pieces) : Type 0 where
  depth : Option Node
  next : ℕ → ℕ
  same : T.data_if_any depth ≡ F.depth_data d
  reads : R.depth ts ≡ Ok (depth, stream next k)

depth_read : (d : Option ℕ) → IsFitDepth d → (k : Pieces) → IsOther (codes "depth") k → (o : ℕ → ℕ) → DepthRead d (stream o (depth_pieces d k)) k
depth_read None w k other o = record {
  depth = None;
  next = o;
  same = refl;
  reads = ap (λ b. elim b as (λ _. Result (Option Node × Tokens) ℕ) [ true ↦ P.natural (past (stream o k)) >>= λ n. Ok (Some n.0, n.1) | false ↦ Ok (None, stream o k) ])
      (begins-stream (is_word (codes "depth")) k o ∙ other);
}
depth_read (Some n) w k other o = record {
  depth = Some (T.integer (o 1) (pos n));
  next = λ i. o (suc (suc i));
  same = refl;
  reads = bind_ok _ _ _ (natural_is space n k (λ i. o (suc i)) w);
}

pub record ScriptRead (s : Script) (ts : Tokens) : Type 0 where
  pub read : T.Script
  pub same : T.script_data read ≡ F.script_data s
  pub reads : script ts ≡ Ok read

pub script_read : (s : Script) → IsFitScript s → (o : ℕ → ℕ) → ScriptRead s (stream o (script_pieces s))
unfolding script
script_read s w o =
    let items_part = each_part later_item_pieces s.items [] in
    let rules_part = each_part rule_pieces s.rules items_part in
    let classes_part = classes_pieces s.classes rules_part in
    let others = rules_other s.rules s.items in
    let lets = has_let (pos s.version) in
    let d = depth_read s.depth w.depth classes_part (classes_other s.classes rules_part others.1) (λ i. o (suc (suc i))) in
    let cs = all_read (is_word (codes "class")) class (map class_data s.classes) classes_part rules_part (classes_read s.classes rules_part others.0) d.next in
    let rs = all_read (is_word (codes "rule")) (rule lets) (map rule_data s.rules) rules_part items_part (rules_read lets s.rules w.rules items_part (items_other s.items).1) cs.next in
    let is = all_read is_item item (map item_data s.items) items_part [] (items_read s.items w.items) rs.next in
    record {
      read = record { at = o 0; version = T.integer (o 1) (pos s.version); depth = d.depth; classes = cs.node; rules = rs.node; items = is.node };
      same = λ i. root_data (natural_data s.version) (d.same i) (cs.same i) (rs.same i) (is.same i);
      reads = bind_ok _ _ _ (natural_is space s.version (depth_pieces s.depth classes_part) (λ i. o (suc i)) w.version) ∙ bind_ok _ _ _ d.reads ∙ bind_ok _ _ _ cs.reads
          ∙ bind_ok _ _ _ rs.reads ∙ bind_ok _ _ _ is.reads;
    }
