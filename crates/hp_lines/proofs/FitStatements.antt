-- The statements that are read from JSON fit.
use Rattle.std.proofs.Common.{◌≡◌, refl, ℕ, zero, suc, List, [], ◌∷◌, length, None, Some, ◌&&◌, IsTrue}
use Rattle.std.proofs.lemmas.Bool.{and_from}
use Rattle.std.specs.Prelude.{⊤, not, nat_lt, codes, if◌then◌else◌}
use Rattle.std.specs.List.{AllByRecursion, list_all}
use Rattle.serde_json.specs.Data.{Data}
use Rattle.hp_model.specs.Values.{Name}
use Rattle.hp_model.specs.Expressions.{Expression}
use Rattle.hp_model.specs.Rules.{Aggregate, Assignment, Statement, RuleOperation, install, enable, disable, remove}
use Rattle.hp_model.specs.Refusals.{over_limit, arguments_limit, nesting_limit, Path, item_at, shaped}
use Rattle.hp_model.specs.Json.{Form, pair_of}
use Rattle.hp_model.specs.Parts.{name_at, place_at}
use Rattle.hp_model.specs.Scopes as S
use Rattle.hp_model.specs.Scopes.{class_names, is_fourth, new_row_at}
use Rattle.hp_model.specs.ExpressionGrammar.{expression_at}
use Rattle.hp_model.specs.AggregateGrammar as A
use Rattle.hp_model.specs.AggregateGrammar.{AggregateForm, aggregate_form, over_at, terms_at, aggregate_from, single_at, aggregate_at, is_aggregate, Over}
use Rattle.hp_model.specs.StatementGrammar as G
use Rattle.hp_model.specs.StatementGrammar.{StatementForm, Reading, assignment_at, assignments_at, all_assignments_at, statement_form, common_statement_form, new_statement_form}
use Rattle.hp_model.specs.StatementGrammar.{statement_form_at, create_at, update_at, delete_at, arguments_at, signal_at, emit_at, veto_with_at, on_rule_at, fire_at, body_of, statements_by, if_at}
use Rattle.hp_model.specs.StatementGrammar.{assigned_field_at, each_at, query_at, for_at, with_at, sub_at, let_value_at, statement_from, statement_within, statements_at, is_veto}
use Rattle.hp_model.specs.Decode.{Version}
use Rattle.hp_model.specs.Ranges.{expression_fits, assignments_fit, aggregate_fits, statement_fits, body_fits}
use Rattle.hp_model.proofs.WellFormedParts.{Reads, Reads-value, Reads-none, Reads-any, Reads-more, Reads-then, Reads-unless, Reads-shaped}
use Rattle.hp_lines.proofs.FitData.{DataFits, AllFit, pair_fits}
use Rattle.hp_lines.proofs.FitReadings.{Reads-cond, list_reads, short_reads, each_reads, list_true, class_reads, beside_fits, or_fits, if_fits, formed, whole_reads, Fits, ExpressionFits}

-- ---- aggregates

abbrev AggregateFormFits : AggregateForm → Type 0
AggregateFormFits (A.count_form variable class predicate) = DataFits predicate
AggregateFormFits (A.sum_form variable class predicate term) = DataFits predicate × DataFits term
AggregateFormFits (A.least_form variable class predicate term) = DataFits predicate × DataFits term
AggregateFormFits (A.greatest_form variable class predicate term) = DataFits predicate × DataFits term
AggregateFormFits (A.next_form class) = ⊤

aggregate_forms : (word : List ℕ) (parts : List Data) (x : AggregateForm) → AllFit parts → aggregate_form word parts ≡ Some x → AggregateFormFits x
aggregate_forms word [] x h e = cc
aggregate_forms word (a ∷ []) x h e = beside_fits AggregateFormFits word ((codes "next", A.next_form a) ∷ []) x e (tt, tt)
aggregate_forms word (a ∷ b ∷ []) x h e = cc
aggregate_forms word (a ∷ b ∷ c ∷ []) x h e = beside_fits AggregateFormFits word ((codes "count", A.count_form a b c) ∷ []) x e (h.1.1.0, tt)
aggregate_forms word (a ∷ b ∷ c ∷ d ∷ []) x h e =
    beside_fits AggregateFormFits word ((codes "sum", A.sum_form a b c d) ∷ (codes "least", A.least_form a b c d) ∷ (codes "greatest", A.greatest_form a b c d) ∷ []) x e
    ((h.1.1.0, h.1.1.1.0), ((h.1.1.0, h.1.1.1.0), ((h.1.1.0, h.1.1.1.0), tt)))
aggregate_forms word (a ∷ b ∷ c ∷ d ∷ g ∷ parts) x h e = cc

abbrev pub AggregateFits : Aggregate → Type 0
AggregateFits a = IsTrue (aggregate_fits a)

over_reads : (classes : List Name) (setting : S.Setting) (path : Path) (variable class predicate : Data) → DataFits predicate
    → Reads (λ (o : Over). ExpressionFits o.predicate) (over_at classes setting path variable class predicate)
unfolding over_at
over_reads classes setting path variable class predicate h =
    Reads-then (Reads-any (new_row_at setting.names (item_at path 1) variable)) λ x _.
    Reads-then (Reads-any (place_at classes (item_at path 2) class)) λ n _. Reads-then (whole_reads (S.row_setting x setting) (item_at path 3) predicate h) λ e fit. Reads-value _ fit

terms_reads : (classes : List Name) (setting : S.Setting) (path : Path) (variable class predicate term : Data) → DataFits predicate × DataFits term
    → Reads (λ (t : Over × Expression). IsTrue (expression_fits t.0.predicate && expression_fits t.1)) (terms_at classes setting path variable class predicate term)
unfolding terms_at
terms_reads classes setting path variable class predicate term h =
    Reads-then (over_reads classes setting path variable class predicate h.0) λ o fit.
    Reads-then (whole_reads (S.row_setting o.variable setting) (item_at path 4) term h.1) λ e fits.
    Reads-value _ (and_from (expression_fits o.predicate) (expression_fits e) fit fits)

aggregate_from_reads : (classes : List Name) (setting : S.Setting) (path : Path) (form : AggregateForm) → AggregateFormFits form → Reads AggregateFits (aggregate_from classes setting path form)
aggregate_from_reads classes setting path (A.count_form x c p) h = Reads-then (over_reads classes setting path x c p h) λ o fit. Reads-value _ fit
aggregate_from_reads classes setting path (A.sum_form x c p t) h = Reads-then (terms_reads classes setting path x c p t h) λ o fit. Reads-value _ fit
aggregate_from_reads classes setting path (A.least_form x c p t) h = Reads-then (terms_reads classes setting path x c p t h) λ o fit. Reads-value _ fit
aggregate_from_reads classes setting path (A.greatest_form x c p t) h = Reads-then (terms_reads classes setting path x c p t h) λ o fit. Reads-value _ fit
aggregate_from_reads classes setting path (A.next_form c) h = Reads-then (Reads-any (place_at classes (item_at path 1) c)) λ n _. Reads-value _ refl

pub single_reads : (setting : S.Setting) → Fits AggregateFits (single_at setting)
unfolding single_at
single_reads setting path d h = Reads-then (whole_reads setting path d h) λ e fit. Reads-value _ fit

pub aggregate_reads : (classes : List Name) (setting : S.Setting) → Fits AggregateFits (aggregate_at classes setting)
unfolding aggregate_at
aggregate_reads classes setting path d h =
    Reads-cond (is_aggregate d)
    (Reads-then (formed AggregateFormFits (λ f. aggregate_form f.word f.parts) (λ f x fit is. aggregate_forms f.word f.parts x fit is) path d h) λ form fit.
    aggregate_from_reads classes setting path form fit)
    (single_reads setting path d h)

-- ---- assignments

abbrev AssignmentFits : Assignment → Type 0
AssignmentFits a = ExpressionFits a.value

pair_reads : Fits (λ (p : Data × Data). DataFits p.0 × DataFits p.1) (λ path d. shaped path (pair_of d))
pair_reads path d h = Reads-more (λ p is. pair_fits d p h is) (Reads-shaped path (pair_of d))

assignment_reads : (fields : List Name) (setting : S.Setting) (before : List Assignment) → Fits AssignmentFits (assignment_at fields setting before)
unfolding assignment_at
assignment_reads fields setting before path d h =
    Reads-then (pair_reads path d h) λ pair fit. Reads-then (Reads-any (assigned_field_at fields (G.assigned_names before) (item_at path 0) pair.0)) λ f _.
    Reads-then (whole_reads setting (item_at path 1) pair.1 fit.1) λ e fits. Reads-value _ fits

abbrev AssignmentsFit : List Assignment → Type 0
AssignmentsFit pairs = IsTrue (assignments_fit pairs)

assignments_reads : (fields : List Name) (setting : S.Setting) → Fits AssignmentsFit (assignments_at fields setting)
unfolding assignments_at
assignments_reads fields setting path d h =
    Reads-then (list_reads path d h) λ ds fit.
    Reads-more (λ pairs all. list_true (λ (a : Assignment). expression_fits a.value) pairs all)
    (each_reads AssignmentFits DataFits (assignment_at fields setting) (λ before q x fits. assignment_reads fields setting before q x fits) path ds fit)

all_assignments_reads : (fields : List Name) (setting : S.Setting) → Fits AssignmentsFit (all_assignments_at fields setting)
unfolding all_assignments_at
all_assignments_reads fields setting path d h =
    Reads-then (assignments_reads fields setting path d h) λ pairs fit. Reads-unless (nat_lt (length pairs) (length fields)) _ pairs (λ enough. fit)

-- ---- statements

abbrev StatementFormFits : StatementForm → Type 0
StatementFormFits (G.create_form class key pairs) = DataFits key × DataFits pairs
StatementFormFits (G.update_form class key pairs) = DataFits key × DataFits pairs
StatementFormFits (G.delete_form class key) = DataFits key
StatementFormFits (G.signal_form name arguments) = DataFits arguments
StatementFormFits (G.emit_form value) = DataFits value
StatementFormFits (G.if_form test then_body else_body) = DataFits test × DataFits then_body × DataFits else_body
StatementFormFits (G.each_form variable class predicate body) = DataFits predicate × DataFits body
StatementFormFits (G.for_form query body) = DataFits body
StatementFormFits (G.with_form variable class key body) = DataFits key × DataFits body
StatementFormFits (G.sub_form body otherwise) = DataFits body × DataFits otherwise
StatementFormFits (G.let_form name aggregate body) = DataFits aggregate × DataFits body
StatementFormFits (G.veto_with_form message) = DataFits message
StatementFormFits form = ⊤

common_statements : (word : List ℕ) (parts : List Data) (x : StatementForm) → AllFit parts → common_statement_form word parts ≡ Some x → StatementFormFits x
common_statements word [] x h e = beside_fits StatementFormFits word ((codes "abort", G.abort_form) ∷ (codes "veto", G.veto_form) ∷ []) x e (tt, (tt, tt))
common_statements word (a ∷ []) x h e =
    beside_fits StatementFormFits word
    ((codes "emit", G.emit_form a) ∷ (codes "install", G.rule_form install a) ∷ (codes "enable", G.rule_form enable a) ∷
    (codes "disable", G.rule_form disable a) ∷ (codes "remove", G.rule_form remove a) ∷ (codes "fire", G.fire_form a) ∷ []) x e (h.0, (tt, (tt, (tt, (tt, (tt, tt))))))
common_statements word (a ∷ b ∷ []) x h e =
    beside_fits StatementFormFits word
    ((codes "delete", G.delete_form a b) ∷ (codes "signal", G.signal_form a b) ∷ (codes "for", G.for_form a b) ∷ (codes "sub", G.sub_form a b) ∷ []) x e (h.1.0, (h.1.0, (h.1.0, ((h.0, h.1.0), tt))))
common_statements word (a ∷ b ∷ c ∷ []) x h e =
    beside_fits StatementFormFits word ((codes "create", G.create_form a b c) ∷ (codes "update", G.update_form a b c) ∷ (codes "if", G.if_form a b c) ∷ []) x e
    ((h.1.0, h.1.1.0), ((h.1.0, h.1.1.0), ((h.0, h.1.0, h.1.1.0), tt)))
common_statements word (a ∷ b ∷ c ∷ d ∷ []) x h e =
    beside_fits StatementFormFits word ((codes "each", G.each_form a b c d) ∷ (codes "with", G.with_form a b c d) ∷ []) x e ((h.1.1.0, h.1.1.1.0), ((h.1.1.0, h.1.1.1.0), tt))
common_statements word (a ∷ b ∷ c ∷ d ∷ g ∷ parts) x h e = cc

new_statements : (word : List ℕ) (parts : List Data) (x : StatementForm) → AllFit parts → new_statement_form word parts ≡ Some x → StatementFormFits x
new_statements word [] x h e = cc
new_statements word (a ∷ []) x h e = beside_fits StatementFormFits word ((codes "veto", G.veto_with_form a) ∷ []) x e (h.0, tt)
new_statements word (a ∷ b ∷ []) x h e = cc
new_statements word (a ∷ b ∷ c ∷ []) x h e = beside_fits StatementFormFits word ((codes "let", G.let_form a b c) ∷ []) x e ((h.1.0, h.1.1.0), tt)
new_statements word (a ∷ b ∷ c ∷ d ∷ parts) x h e = cc

statement_forms : (version : Version) (f : Form) (x : StatementForm) → AllFit f.parts → statement_form version f.word f.parts ≡ Some x → StatementFormFits x
statement_forms version f x h e =
    or_fits StatementFormFits (common_statement_form f.word f.parts) (if is_fourth version then new_statement_form f.word f.parts else None) x (λ y is. common_statements f.word f.parts y h is)
    (λ y is. if_fits StatementFormFits (is_fourth version) (new_statement_form f.word f.parts) y (λ z at. new_statements f.word f.parts z h at) is) e

statement_form_reads : (version : Version) (scope : S.Scope) → Fits StatementFormFits (statement_form_at version scope)
unfolding statement_form_at
statement_form_reads version scope path d h =
    Reads-then (formed StatementFormFits (λ f. statement_form version f.word f.parts) (statement_forms version) path d h) λ form fit.
    Reads-unless (is_veto form && not scope.in_action) _ form (λ may. fit)

-- of this number of classes
abbrev StatementFits : (classes : ℕ) → Statement → Type 0
StatementFits classes s = IsTrue (statement_fits classes s)

abbrev pub BodyFits : (classes : ℕ) → List Statement → Type 0
BodyFits classes ss = IsTrue (body_fits classes (body_of ss))

body_true : (classes : ℕ) (ss : List Statement) → AllByRecursion (StatementFits classes) ss → BodyFits classes ss
body_true classes [] h = refl
body_true classes (s ∷ ss) h = and_from (statement_fits classes s) (body_fits classes (body_of ss)) h.0 (body_true classes ss h.1)

module _ (scope : S.Scope) where
  abbrev pub count : ℕ
  count = length (class_names scope.classes)

  abbrev StatementReads : Reading → Type 0
  StatementReads statement = (setting : S.Setting) → Fits (StatementFits count) (statement setting)

  create_reads : (setting : S.Setting) (path : Path) (class key pairs : Data) → DataFits key × DataFits pairs → Reads (StatementFits count) (create_at scope setting path class key pairs)
  unfolding create_at
  create_reads setting path class key pairs h =
      Reads-then (class_reads (class_names scope.classes) (item_at path 1) class) λ n of_class.
      Reads-then (whole_reads setting (item_at path 2) key h.0) λ k fit.
      Reads-then (all_assignments_reads (S.fields_of scope n) setting (item_at path 3) pairs h.1) λ ps fits.
      Reads-value _ (and_from (nat_lt n count) _ of_class (and_from (expression_fits k) (assignments_fit ps) fit fits))

  update_reads : (setting : S.Setting) (path : Path) (class key pairs : Data) → DataFits key × DataFits pairs → Reads (StatementFits count) (update_at scope setting path class key pairs)
  unfolding update_at
  update_reads setting path class key pairs h =
      Reads-then (Reads-any (place_at (class_names scope.classes) (item_at path 1) class)) λ n _.
      Reads-then (whole_reads setting (item_at path 2) key h.0) λ k fit.
      Reads-then (assignments_reads (S.fields_of scope n) setting (item_at path 3) pairs h.1) λ ps fits.
      Reads-value _ (and_from (expression_fits k) (assignments_fit ps) fit fits)

  delete_reads : (setting : S.Setting) (path : Path) (class key : Data) → DataFits key → Reads (StatementFits count) (delete_at scope setting path class key)
  unfolding delete_at
  delete_reads setting path class key h =
      Reads-then (Reads-any (place_at (class_names scope.classes) (item_at path 1) class)) λ n _. Reads-then (whole_reads setting (item_at path 2) key h) λ k fit. Reads-value _ fit

  arguments_reads : (setting : S.Setting) → Fits (λ es. IsTrue (list_all expression_fits es)) (arguments_at setting)
  unfolding arguments_at
  arguments_reads setting path d h =
      Reads-then (short_reads 32 arguments_limit path d h) λ ds fit.
      Reads-more (λ es all. list_true expression_fits es all) (each_reads ExpressionFits DataFits (λ _. expression_at setting) (λ before q x fits. whole_reads setting q x fits) path ds fit)

  signal_reads : (setting : S.Setting) (path : Path) (name arguments : Data) → DataFits arguments → Reads (StatementFits count) (signal_at setting path name arguments)
  unfolding signal_at
  signal_reads setting path name arguments h =
      Reads-then (Reads-any (name_at (item_at path 1) name)) λ x _. Reads-then (arguments_reads setting (item_at path 2) arguments h) λ es fit. Reads-value _ fit

  emit_reads : (setting : S.Setting) (path : Path) (value : Data) → DataFits value → Reads (StatementFits count) (emit_at setting path value)
  unfolding emit_at
  emit_reads setting path value h = Reads-then (whole_reads setting (item_at path 1) value h) λ e fit. Reads-value _ fit

  veto_reads : (setting : S.Setting) (path : Path) (message : Data) → DataFits message → Reads (StatementFits count) (veto_with_at setting path message)
  unfolding veto_with_at
  veto_reads setting path message h = Reads-then (whole_reads setting (item_at path 1) message h) λ e fit. Reads-value _ fit

  rule_reads : (op : RuleOperation) (path : Path) (rule : Data) → Reads (StatementFits count) (on_rule_at scope op path rule)
  unfolding on_rule_at
  rule_reads op path rule = Reads-then (Reads-any (place_at scope.rules (item_at path 1) rule)) λ n _. Reads-value _ refl

  fire_reads : (path : Path) (rule : Data) → Reads (StatementFits count) (fire_at scope path rule)
  unfolding fire_at
  fire_reads path rule = Reads-then (Reads-any (place_at scope.rules (item_at path 1) rule)) λ n _. Reads-value _ refl

  module _ (statement : Reading) (one : StatementReads statement) where
    body_reads : (setting : S.Setting) → Fits (BodyFits count) (statements_by statement setting)
    unfolding statements_by
    body_reads setting path d h =
        Reads-then (list_reads path d h) λ ds fit.
        Reads-more (λ ss all. body_true count ss all) (each_reads (StatementFits count) DataFits (λ _. statement setting) (λ before q x fits. one setting q x fits) path ds fit)

    if_reads : (setting : S.Setting) (path : Path) (test b c : Data) → DataFits test × DataFits b × DataFits c → Reads (StatementFits count) (if_at statement setting path test b c)
    unfolding if_at
    if_reads setting path test b c h =
        Reads-then (whole_reads setting (item_at path 1) test h.0) λ e fit.
        Reads-then (body_reads setting (item_at path 2) b h.1) λ x fits.
        Reads-then (body_reads setting (item_at path 3) c h.2) λ y others.
        Reads-value _ (and_from (expression_fits e) _ fit (and_from (body_fits count (body_of x)) (body_fits count (body_of y)) fits others))

    row_reads : (setting : S.Setting) (path : Path) (x c p b : Data) → DataFits p × DataFits b → Reads (StatementFits count) (each_at scope statement setting path x c p b)
    unfolding each_at
    row_reads setting path x c p b h =
        Reads-then (Reads-any (new_row_at setting.names (item_at path 1) x)) λ name _.
        Reads-then (Reads-any (place_at (class_names scope.classes) (item_at path 2) c)) λ n _.
        Reads-then (whole_reads (S.row_setting name setting) (item_at path 3) p h.0) λ e fit.
        Reads-then (body_reads (S.row_setting name setting) (item_at path 4) b h.1) λ ss fits.
        Reads-value _ (and_from (expression_fits e) (body_fits count (body_of ss)) fit fits)

    for_reads : (setting : S.Setting) (path : Path) (q b : Data) → DataFits b → Reads (StatementFits count) (for_at scope statement setting path q b)
    unfolding for_at
    for_reads setting path q b h = Reads-then (Reads-any (query_at scope (item_at path 1) q)) λ x _. Reads-then (body_reads setting (item_at path 2) b h) λ ss fits. Reads-value _ fits

    with_reads : (setting : S.Setting) (path : Path) (x c k b : Data) → DataFits k × DataFits b → Reads (StatementFits count) (with_at scope statement setting path x c k b)
    unfolding with_at
    with_reads setting path x c k b h =
        Reads-then (Reads-any (new_row_at setting.names (item_at path 1) x)) λ name _.
        Reads-then (Reads-any (place_at (class_names scope.classes) (item_at path 2) c)) λ n _.
        Reads-then (whole_reads setting (item_at path 3) k h.0) λ e fit.
        Reads-then (body_reads (S.row_setting name setting) (item_at path 4) b h.1) λ ss fits.
        Reads-value _ (and_from (expression_fits e) (body_fits count (body_of ss)) fit fits)

    sub_reads : (setting : S.Setting) (path : Path) (b c : Data) → DataFits b × DataFits c → Reads (StatementFits count) (sub_at statement setting path b c)
    unfolding sub_at
    sub_reads setting path b c h =
        Reads-then (body_reads setting (item_at path 1) b h.0) λ x fits.
        Reads-then (body_reads setting (item_at path 2) c h.1) λ y others.
        Reads-value _ (and_from (body_fits count (body_of x)) (body_fits count (body_of y)) fits others)

    let_reads : (setting : S.Setting) (path : Path) (x a b : Data) → DataFits a × DataFits b → Reads (StatementFits count) (let_value_at scope statement setting path x a b)
    unfolding let_value_at
    let_reads setting path x a b h =
        Reads-then (Reads-any (new_row_at setting.names (item_at path 1) x)) λ name _.
        Reads-then (aggregate_reads (class_names scope.classes) setting (item_at path 2) a h.0) λ e fit.
        Reads-then (body_reads (S.value_setting name setting) (item_at path 3) b h.1) λ ss fits.
        Reads-value _ (and_from (aggregate_fits e) (body_fits count (body_of ss)) fit fits)

    statement_from_reads : (setting : S.Setting) (path : Path) (form : StatementForm) → StatementFormFits form → Reads (StatementFits count) (statement_from scope statement setting path form)
    statement_from_reads setting path (G.create_form c k ps) h = create_reads setting path c k ps h
    statement_from_reads setting path (G.update_form c k ps) h = update_reads setting path c k ps h
    statement_from_reads setting path (G.delete_form c k) h = delete_reads setting path c k h
    statement_from_reads setting path (G.signal_form x es) h = signal_reads setting path x es h
    statement_from_reads setting path (G.emit_form e) h = emit_reads setting path e h
    statement_from_reads setting path (G.if_form e b c) h = if_reads setting path e b c h
    statement_from_reads setting path (G.each_form x c p b) h = row_reads setting path x c p b h
    statement_from_reads setting path (G.for_form q b) h = for_reads setting path q b h
    statement_from_reads setting path (G.with_form x c k b) h = with_reads setting path x c k b h
    statement_from_reads setting path (G.sub_form b c) h = sub_reads setting path b c h
    statement_from_reads setting path (G.let_form x a b) h = let_reads setting path x a b h
    statement_from_reads setting path G.abort_form h = Reads-value _ refl
    statement_from_reads setting path G.veto_form h = Reads-value _ refl
    statement_from_reads setting path (G.veto_with_form e) h = veto_reads setting path e h
    statement_from_reads setting path (G.rule_form op n) h = rule_reads op path n
    statement_from_reads setting path (G.fire_form n) h = fire_reads path n

  statement_reads : (levels : ℕ) → StatementReads (statement_within scope levels)
  unfolding statement_within
  statement_reads zero setting path d h = Reads-then (Reads-any (statement_form_at setting.version scope path d)) λ form _. Reads-none (over_limit nesting_limit)
  statement_reads (suc levels) setting path d h =
      Reads-then (statement_form_reads setting.version scope path d h) λ form fit. statement_from_reads (statement_within scope levels) (statement_reads levels) setting path form fit

  pub statements_reads : (setting : S.Setting) → Fits (BodyFits count) (statements_at scope setting)
  statements_reads setting path d h = body_reads (statement_within scope 16) (statement_reads 16) setting path d h
