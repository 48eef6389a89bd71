-- The value of each script that can be written has the script's form.
use Rattle.std.proofs.Common.{◌≡◌, refl, ap, ◌∙◌, ℕ, zero, suc, ◌≤◌, ◌^◌, pos, negsuc, Bool, true, false, List, [], ◌∷◌, map, Option, Some, None, arith}
use Rattle.std.specs.Prelude.{if◌then◌else◌, option_map, option_and_then}
use Rattle.std.specs.Option.{option_or}
use Rattle.std.proofs.lemmas.Bool.{lt-ltb}
use Rattle.serde_json.specs.Data.{Data, string, array}
use Rattle.hp_model.specs.Values.{Kind, integer_kind, boolean_kind, text_kind}
use Rattle.hp_model.specs.Rules.{Coupling, immediate, deferred, separate, dependent, exclusive}
use Rattle.hp_model.specs.Report.{coupling_word}
use Rattle.hp_model.specs.Json.{listed, Form, form_of}
use Rattle.hp_model.specs.Parts.{is_name, name_of}
use Rattle.hp_model.specs.Decode.{Root, root_of}
use Rattle.hp_model.specs.NotationTree.{root_data}
use Rattle.hp_model.specs.NotationScripts.{has_let}
use Rattle.hp_model.specs.NotationForms as F
use Rattle.hp_model.specs.NotationForms.{Expression, integer, truth, text, Operator, either, both, equal, unequal, less, at_most, greater, at_least, plus, minus, times, quotient}
use Rattle.hp_model.specs.NotationForms.{remainder, operation, inverted, negated, field_of, key_of, value, now, Image, image_field, new_image, old_image, key_in, time_of, argument}
use Rattle.hp_model.specs.NotationForms.{occurrence_count, expression_data, Change, Event, on_change, creation, change, deletion, on_signal, on_commit, at_moment, every_moment}
use Rattle.hp_model.specs.NotationForms.{or_event, then_event, closure_event, event_data, Rows, Fold, total, least, greatest, Aggregate, count_of, fold_of, next_key, plain}
use Rattle.hp_model.specs.NotationForms.{aggregate_data, Query, some_rows, no_rows, named_value, query_data, Assignment, assignment_data, Statement, Setting, create, update}
use Rattle.hp_model.specs.NotationForms.{set_object, delete, signal, emit, when, each, for_answer, with_object, with_value, subtransaction, abort, veto, veto_with, RuleOperation}
use Rattle.hp_model.specs.NotationForms.{install, enable, disable, remove, fire, on_rule, Body, empty, ◌then◌, statement_data, body_data, Field, kind_word, field_data, Class}
use Rattle.hp_model.specs.NotationForms.{class_data, Rule, closed_data, rule_data, Item, transaction, clock, item_data, Script, depth_data, script_data, natural_data, items}
use Rattle.hp_model.specs.NotationForms.{list_data}
use Rattle.hp_model.specs.NotationPrint.{print_script, print_item}
use Rattle.hp_model.specs.NotationValues.{fitting, natural_of, of_one, of_two, of_three, each_of, list_form, expression_of, any_expression, event_of, rows_of, aggregate_of_form}
use Rattle.hp_model.specs.NotationValues.{aggregate_of, query_of, assignment_of, statement_of_form, body_in, body_of, any_body, field_form, class_form, depth_form, script_with}
use Rattle.hp_model.specs.NotationValues.{script_of_version, mode_of, rule_form, item_form, script_form}
use Rattle.hp_model.specs.NotationLaws.{Fits, IsWritableExpression, expression_levels, IsWritableEvent, event_levels, IsFitExpression, AreFitRows, IsFitAggregate, IsFitQuery}
use Rattle.hp_model.specs.NotationLaws.{AreFitAssignments, AreFitExpressions, IsFitStatement, IsFitBody, statement_levels, body_levels, EachIs, IsFitField, IsFitClass, IsFitRule}
use Rattle.hp_model.specs.NotationLaws.{IsFitItem, IsFitDepth, IsFitScript, ValuesAreRead, LinesAreRead}
use Rattle.hp_model.proofs.NotationExpressionsRead.{levels_positive}
use Rattle.hp_model.proofs.NotationEventsRead.{event_levels_positive}
use Rattle.hp_model.proofs.NotationStatementsRead.{body_levels_positive}
use Rattle.hp_model.proofs.NotationRead.{scripts_are_read, item_line_read}

-- ---- parts

name_valued : (x : List ℕ) → is_name x ≡ true → name_of (string x) ≡ Some x
name_valued x ok = rw ok refl

natural_valued : (n : ℕ) → Fits n → natural_of (natural_data n) ≡ Some n
natural_valued n fits = rw (lt-ltb n (2 ^ 63) fits) refl

two_valued : {A B C : Type 0} (make : A → B → C) (a : Option A) (b : Option B) (x : A) (y : B) → a ≡ Some x → b ≡ Some y → of_two make a b ≡ Some (make x y)
two_valued make a b x y p q = rw (p, q) refl

three_valued : {A B C D : Type 0} (make : A → B → C → D) (a : Option A) (b : Option B) (c : Option C) (x : A) (y : B) (z : C) → a ≡ Some x → b ≡ Some y → c ≡ Some z
    → of_three make a b c ≡ Some (make x y z)
three_valued make a b c x y z p q r = rw (p, q, r) refl

one_valued : {A B : Type 0} (make : A → B) (a : Option A) (x : A) → a ≡ Some x → of_one make a ≡ Some (make x)
one_valued make a x p = rw p refl

listed_items : (ds : List Data) → listed (items ds) ≡ ds
listed_items [] = refl
listed_items (d ∷ ds) = ap (λ l. d ∷ l) (listed_items ds)

each_valued : {A : Type 0} (read : Data → Option A) (data_of : A → Data) (Fit : A → Type 0) → ((x : A) → Fit x → read (data_of x) ≡ Some x) → (xs : List A) → EachIs Fit xs
    → each_of read (map data_of xs) ≡ Some xs
each_valued read data_of Fit one [] w = refl
each_valued read data_of Fit one (x ∷ xs) w = two_valued _ _ _ x xs (one x w.0) (each_valued read data_of Fit one xs w.1)

list_valued : {A : Type 0} (read : Data → Option A) (ds : List Data) (xs : List A) → each_of read ds ≡ Some xs → list_form read (list_data ds) ≡ Some xs
list_valued read ds xs e = ap (each_of read) (listed_items ds) ∙ e

-- ---- expressions and events

operation_valued : (op : Operator) (a b : Expression) (n : ℕ) → expression_of n (expression_data a) ≡ Some a → expression_of n (expression_data b) ≡ Some b
    → expression_of (suc n) (expression_data (operation op a b)) ≡ Some (operation op a b)
unfolding expression_of
operation_valued either a b n p q = rw (p, q) refl
operation_valued both a b n p q = rw (p, q) refl
operation_valued equal a b n p q = rw (p, q) refl
operation_valued unequal a b n p q = rw (p, q) refl
operation_valued less a b n p q = rw (p, q) refl
operation_valued at_most a b n p q = rw (p, q) refl
operation_valued greater a b n p q = rw (p, q) refl
operation_valued at_least a b n p q = rw (p, q) refl
operation_valued plus a b n p q = rw (p, q) refl
operation_valued minus a b n p q = rw (p, q) refl
operation_valued times a b n p q = rw (p, q) refl
operation_valued quotient a b n p q = rw (p, q) refl
operation_valued remainder a b n p q = rw (p, q) refl

expression_valued : (e : Expression) → IsWritableExpression e → (n : ℕ) → expression_levels e ≤ n → expression_of n (expression_data e) ≡ Some e
unfolding expression_of
expression_valued e w zero h = absurd (omega (arith, levels_positive e))
expression_valued (integer (pos z)) w (suc n) h =
    ap (λ b. option_map integer (option_and_then fitting (if b then Some (pos z) else None))) (lt-ltb z (2 ^ 63) w)
    ∙ ap (λ b. option_map integer (if b then Some (pos z) else None)) (lt-ltb z (2 ^ 63) w)
expression_valued (integer (negsuc z)) w (suc n) h = rw (lt-ltb z (2 ^ 63) w) refl
expression_valued (truth b) w (suc n) h = refl
expression_valued (text s) w (suc n) h = ap (λ b. if b then Some (text s) else None) w
expression_valued (operation op a b) w (suc n) h = operation_valued op a b n (expression_valued a w.0 n (omega arith)) (expression_valued b w.1 n (omega arith))
expression_valued (inverted a) w (suc n) h = one_valued _ _ a (expression_valued a w n (omega arith))
expression_valued (negated a) w (suc n) h = one_valued _ _ a (expression_valued a w n (omega arith))
expression_valued (field_of x f) w (suc n) h = two_valued _ _ _ x f (name_valued x w.0) (name_valued f w.1)
expression_valued (key_of x) w (suc n) h = one_valued _ _ x (name_valued x w)
expression_valued (value x) w (suc n) h = one_valued _ _ x (name_valued x w)
expression_valued now w (suc n) h = refl
expression_valued (image_field new_image i f) w (suc n) h = two_valued _ _ _ i f (natural_valued i w.0) (name_valued f w.1)
expression_valued (image_field old_image i f) w (suc n) h = two_valued _ _ _ i f (natural_valued i w.0) (name_valued f w.1)
expression_valued (key_in i) w (suc n) h = one_valued _ _ i (natural_valued i w)
expression_valued (time_of i) w (suc n) h = one_valued _ _ i (natural_valued i w)
expression_valued (argument i j) w (suc n) h = two_valued _ _ _ i j (natural_valued i w.0) (natural_valued j w.1)
expression_valued occurrence_count w (suc n) h = refl

any_valued : (e : Expression) → IsFitExpression e → any_expression (expression_data e) ≡ Some e
any_valued e w = expression_valued e w.0 32 w.1

event_valued : (x : Event) → IsWritableEvent x → (n : ℕ) → event_levels x ≤ n → event_of n (event_data x) ≡ Some x
unfolding event_of
event_valued x w zero h = absurd (omega (arith, event_levels_positive x))
event_valued (on_change creation x) w (suc n) h = one_valued _ _ x (name_valued x w)
event_valued (on_change change x) w (suc n) h = one_valued _ _ x (name_valued x w)
event_valued (on_change deletion x) w (suc n) h = one_valued _ _ x (name_valued x w)
event_valued (on_signal x) w (suc n) h = one_valued _ _ x (name_valued x w)
event_valued on_commit w (suc n) h = refl
event_valued (at_moment t) w (suc n) h = one_valued _ _ t (natural_valued t w)
event_valued (every_moment t p) w (suc n) h = two_valued _ _ _ t p (natural_valued t w.0) (natural_valued p w.1)
event_valued (or_event a b) w (suc n) h = two_valued _ _ _ a b (event_valued a w.0 n (omega arith)) (event_valued b w.1 n (omega arith))
event_valued (then_event a b) w (suc n) h = two_valued _ _ _ a b (event_valued a w.0 n (omega arith)) (event_valued b w.1 n (omega arith))
event_valued (closure_event a b) w (suc n) h = two_valued _ _ _ a b (event_valued a w.0 n (omega arith)) (event_valued b w.1 n (omega arith))

-- ---- rows, aggregates and queries

rows_valued : (r : Rows) → AreFitRows r → rows_of (string r.name) (string r.class) (expression_data r.predicate) ≡ Some r
rows_valued r w = three_valued _ _ _ _ r.name r.class r.predicate (name_valued r.name w.name) (name_valued r.class w.class) (any_valued r.predicate w.predicate)

no_aggregate : (e : Expression) → option_and_then (λ (f : Form). aggregate_of_form f.word f.parts) (form_of (expression_data e)) ≡ None
no_aggregate (integer (pos n)) = refl
no_aggregate (integer (negsuc n)) = refl
no_aggregate (truth b) = refl
no_aggregate (text s) = refl
no_aggregate (image_field new_image i f) = refl
no_aggregate (image_field old_image i f) = refl
no_aggregate e = refl

aggregate_valued : (a : Aggregate) → IsFitAggregate a → aggregate_of (aggregate_data a) ≡ Some a
aggregate_valued (count_of r) w = ap (λ o. option_or (of_one count_of o) (of_one plain (any_expression (aggregate_data (count_of r))))) (rows_valued r w)
aggregate_valued (fold_of total r e) w = ap (λ o. option_or o (of_one plain (any_expression (aggregate_data (fold_of total r e)))))
    (two_valued (fold_of total) _ _ r e (rows_valued r w.0) (any_valued e w.1))
aggregate_valued (fold_of least r e) w = ap (λ o. option_or o (of_one plain (any_expression (aggregate_data (fold_of least r e)))))
    (two_valued (fold_of least) _ _ r e (rows_valued r w.0) (any_valued e w.1))
aggregate_valued (fold_of greatest r e) w =
    ap (λ o. option_or o (of_one plain (any_expression (aggregate_data (fold_of greatest r e))))) (two_valued (fold_of greatest) _ _ r e (rows_valued r w.0) (any_valued e w.1))
aggregate_valued (next_key c) w = ap (λ o. option_or (of_one next_key o) (of_one plain (any_expression (aggregate_data (next_key c))))) (name_valued c w)
aggregate_valued (plain e) w = ap (λ o. option_or o (of_one plain (any_expression (expression_data e)))) (no_aggregate e) ∙ one_valued plain _ e (any_valued e w)

query_valued : (lets : Bool) (q : Query) → IsFitQuery lets q → query_of lets (query_data q) ≡ Some q
query_valued true (some_rows r) w = rw w.1 (one_valued some_rows _ r (rows_valued r w.0))
query_valued false (some_rows r) w = one_valued some_rows _ r (rows_valued r w.0)
query_valued true (no_rows r) w = ap (λ o. option_or (of_one no_rows o) None) (rows_valued r w)
query_valued false (no_rows r) w = ap (λ o. option_or (of_one no_rows o) None) (rows_valued r w)
query_valued true (named_value x a) w = two_valued named_value _ _ x a (name_valued x w.1) (aggregate_valued a w.2)
query_valued false (named_value x a) w = cc

-- ---- statements

assignment_valued : (a : Assignment) → is_name a.field ≡ true → IsFitExpression a.value → assignment_of (assignment_data a) ≡ Some a
assignment_valued a ok w = two_valued _ _ _ a.field a.value (name_valued a.field ok) (any_valued a.value w)

assignments_valued : (ps : List Assignment) → AreFitAssignments ps → each_of assignment_of (map assignment_data ps) ≡ Some ps
assignments_valued [] w = refl
assignments_valued (a ∷ ps) w = two_valued _ _ _ a ps (assignment_valued a w.0 w.1) (assignments_valued ps w.2)

expressions_valued : (es : List Expression) → AreFitExpressions es → each_of any_expression (map expression_data es) ≡ Some es
expressions_valued [] w = refl
expressions_valued (e ∷ es) w = two_valued _ _ _ e es (any_valued e w.0) (expressions_valued es w.1)

statements_in : Body → List Statement
statements_in empty = []
statements_in (◌then◌ s b) = s ∷ statements_in b

body_of_statements : (b : Body) → body_in (statements_in b) ≡ b
unfolding statements_in
body_of_statements empty = refl
body_of_statements (◌then◌ s b) = ap (◌then◌ s) (body_of_statements b)

abbrev statement_form : ℕ → Data → Option Statement
statement_form n d = option_and_then (λ (f : Form). statement_of_form (body_of n) f.word f.parts) (form_of d)

abbrev StatementsValued : Body → Type 0
StatementsValued b = (n : ℕ) → body_levels b ≤ suc n → each_of (statement_form n) (listed (body_data b)) ≡ Some (statements_in b)

body_by : (b : Body) → StatementsValued b → (n : ℕ) → body_levels b ≤ n → body_of n (array (body_data b)) ≡ Some b
unfolding body_of
body_by b by zero h = absurd (omega (arith, body_levels_positive b))
body_by b by (suc n) h = ap (option_map body_in) (by n h) ∙ ap Some (body_of_statements b)

mutual
  unfolding statements_in

  statement_valued : (s : Statement) → IsFitStatement s → (n : ℕ) → statement_levels s ≤ suc n → statement_form n (statement_data s) ≡ Some s
  statement_valued (set_object create c e ps) w n h =
      three_valued (set_object create) _ _ _ c e ps (name_valued c w.0) (any_valued e w.1) (list_valued assignment_of (map assignment_data ps) ps (assignments_valued ps w.2))
  statement_valued (set_object update c e ps) w n h =
      three_valued (set_object update) _ _ _ c e ps (name_valued c w.0) (any_valued e w.1) (list_valued assignment_of (map assignment_data ps) ps (assignments_valued ps w.2))
  statement_valued (delete c e) w n h = two_valued delete _ _ c e (name_valued c w.0) (any_valued e w.1)
  statement_valued (signal x es) w n h = two_valued signal _ _ x es (name_valued x w.0) (list_valued any_expression (map expression_data es) es (expressions_valued es w.1))
  statement_valued (emit e) w n h = one_valued emit _ e (any_valued e w)
  statement_valued (when e b c) w n h =
      three_valued when _ _ _ e b c (any_valued e w.0) (body_by b (statements_valued b w.1) n (omega arith)) (body_by c (statements_valued c w.2) n (omega arith))
  statement_valued (each r b) w n h = two_valued each _ _ r b (rows_valued r w.0) (body_by b (statements_valued b w.1) n (omega arith))
  statement_valued (for_answer x b) w n h = two_valued for_answer _ _ x b (name_valued x w.0) (body_by b (statements_valued b w.1) n (omega arith))
  statement_valued (with_object x c e b) w n h =
      ap (option_and_then (λ y. of_three (with_object y) (name_of (string c)) (any_expression (expression_data e)) (body_of n (array (body_data b))))) (name_valued x w.0)
      ∙ three_valued (with_object x) _ _ _ c e b (name_valued c w.1) (any_valued e w.2) (body_by b (statements_valued b w.3) n (omega arith))
  statement_valued (with_value x a b) w n h =
      three_valued with_value _ _ _ x a b (name_valued x w.0) (aggregate_valued a w.1) (body_by b (statements_valued b w.2) n (omega arith))
  statement_valued (subtransaction b c) w n h =
      two_valued subtransaction _ _ b c (body_by b (statements_valued b w.0) n (omega arith)) (body_by c (statements_valued c w.1) n (omega arith))
  statement_valued abort w n h = refl
  statement_valued veto w n h = refl
  statement_valued (veto_with e) w n h = one_valued veto_with _ e (any_valued e w)
  statement_valued (on_rule install x) w n h = ap (λ o. option_or (of_one (on_rule install) o) None) (name_valued x w)
  statement_valued (on_rule enable x) w n h = ap (λ o. option_or (of_one (on_rule enable) o) None) (name_valued x w)
  statement_valued (on_rule disable x) w n h = ap (λ o. option_or (of_one (on_rule disable) o) None) (name_valued x w)
  statement_valued (on_rule remove x) w n h = ap (λ o. option_or (of_one (on_rule remove) o) None) (name_valued x w)
  statement_valued (on_rule fire x) w n h = ap (λ o. option_or (of_one (on_rule fire) o) None) (name_valued x w)

  statements_valued : (b : Body) → IsFitBody b → StatementsValued b
  statements_valued empty w n h = refl
  statements_valued (◌then◌ s b) w n h = two_valued _ _ _ s (statements_in b) (statement_valued s w.0 n (omega arith)) (statements_valued b w.1 n (omega arith))

any_body_valued : (b : Body) → IsFitBody b → body_levels b ≤ 64 → any_body (array (body_data b)) ≡ Some b
any_body_valued b w h = body_by b (statements_valued b w) 64 h

-- ---- scripts

field_valued : (f : Field) → IsFitField f → field_form (field_data f) ≡ Some f
field_valued f w = go f.kind
  where
    go : (k : Kind) → field_form (list_data (string f.name ∷ string (kind_word k) ∷ [])) ≡ Some (record { name = f.name; kind = k })
    go integer_kind = rw (name_valued f.name w) refl
    go boolean_kind = rw (name_valued f.name w) refl
    go text_kind = rw (name_valued f.name w) refl

class_valued : (c : Class) → IsFitClass c → class_form (class_data c) ≡ Some c
class_valued c w =
    two_valued _ _ _ c.name c.fields (name_valued c.name w.name)
    (list_valued field_form (map field_data c.fields) c.fields (each_valued field_form field_data IsFitField field_valued c.fields w.fields))

mode_valued : (m : Coupling) → mode_of (string (coupling_word m)) ≡ Some m
mode_valued immediate = refl
mode_valued deferred = refl
mode_valued separate = refl
mode_valued dependent = refl
mode_valued exclusive = refl

rule_valued : (lets : Bool) (r : Rule) → IsFitRule lets r → rule_form lets (rule_data r) ≡ Some r
rule_valued lets r w = go r.is_closed
  where
    go : (c : Bool)
        → rule_form lets (list_data (string r.name ∷ F.event_data r.event ∷ string (coupling_word r.event_mode) ∷ list_data (map query_data r.condition)
        ∷ string (coupling_word r.action_mode) ∷ array (body_data r.action) ∷ closed_data c))
        ≡ Some (record { name = r.name; is_closed = c; event = r.event; event_mode = r.event_mode; condition = r.condition; action_mode = r.action_mode; action = r.action })
    go true = rw (name_valued r.name w.name, event_valued r.event w.event 64 w.event_levels, mode_valued r.event_mode)
        (three_valued _ _ _ _ r.condition r.action_mode r.action (list_valued (query_of lets) (map query_data r.condition) r.condition
        (each_valued (query_of lets) query_data (IsFitQuery lets) (query_valued lets) r.condition w.condition)) (mode_valued r.action_mode) (any_body_valued r.action w.action w.action_levels))
    go false = rw (name_valued r.name w.name, event_valued r.event w.event 64 w.event_levels, mode_valued r.event_mode)
        (three_valued _ _ _ _ r.condition r.action_mode r.action (list_valued (query_of lets) (map query_data r.condition) r.condition
        (each_valued (query_of lets) query_data (IsFitQuery lets) (query_valued lets) r.condition w.condition)) (mode_valued r.action_mode) (any_body_valued r.action w.action w.action_levels))

item_valued : (i : Item) → IsFitItem i → item_form (item_data i) ≡ Some i
unfolding item_form
item_valued (transaction b) w = one_valued transaction _ b (any_body_valued b w.0 w.1)
item_valued (clock t) w = one_valued clock _ t (natural_valued t w)

pub root_valued : (version : Data) (depth : Option Data) (classes rules items : Data)
    → root_of (root_data version depth classes rules items) ≡ Some (record { version = version; depth = depth; classes = classes; rules = rules; items = items })
root_valued version None classes rules items = refl
root_valued version (Some d) classes rules items = refl

depth_valued : (d : Option ℕ) → IsFitDepth d → depth_form (depth_data d) ≡ Some d
depth_valued None w = refl
depth_valued (Some n) w = ap (option_map Some) (natural_valued n w)

script_valued : (s : Script) → IsFitScript s → script_form (script_data s) ≡ Some s
unfolding script_form
script_valued s w =
    let lets = has_let (pos s.version) in
    let classes = list_data (map class_data s.classes) in
    let rules = list_data (map rule_data s.rules) in
    let items = list_data (map item_data s.items) in
    let root : Root = record { version = natural_data s.version; depth = depth_data s.depth; classes = classes; rules = rules; items = items } in
    ap (option_and_then (λ (r : Root). option_and_then (script_of_version r) (natural_of r.version))) (root_valued (natural_data s.version) (depth_data s.depth) classes rules items)
    ∙ ap (option_and_then (script_of_version root)) (natural_valued s.version w.version)
    ∙ ap (option_and_then (λ (depth : Option ℕ). of_three (script_with s.version depth) (list_form class_form classes) (list_form (rule_form lets) rules) (list_form item_form items)))
    (depth_valued s.depth w.depth)
    ∙ three_valued (script_with s.version s.depth) _ _ _ s.classes s.rules s.items
    (list_valued class_form (map class_data s.classes) s.classes (each_valued class_form class_data IsFitClass class_valued s.classes w.classes))
    (list_valued (rule_form lets) (map rule_data s.rules) s.rules (each_valued (rule_form lets) rule_data (IsFitRule lets) (rule_valued lets) s.rules w.rules))
    (list_valued item_form (map item_data s.items) s.items (each_valued item_form item_data IsFitItem item_valued s.items w.items))

pub values_are_read : ValuesAreRead
values_are_read s w =
    let r = scripts_are_read s w in
    (print_script s, r.0, ap (option_map print_script) (script_valued s w), r.1, r.2)

pub lines_are_read : LinesAreRead
lines_are_read i w =
    let r = item_line_read i w in
    (r.0, ap (option_map print_item) (item_valued i w), r.1, r.2)
