-- The statements and the bodies that the grammar reads are well formed.
use Rattle.std.proofs.Common.{◌≡◌, refl, ap, sym, ◌∙◌, subst, ℕ, zero, suc, List, [], ◌∷◌, ◌++◌, length, Bool, true, false, ◌&&◌}
use Rattle.std.proofs.lemmas.List.{length-map}
use Rattle.std.specs.Prelude.{Ok, not, nat_lt, bytes_eq, option_and_then, if◌then◌else◌}
use Rattle.serde_json.specs.Data.{Data}
use Rattle.hp_model.specs.Values.{Name, Field, ClassDef, ◌>>=◌}
use Rattle.hp_model.specs.Rules.{Aggregate, Assignment, RuleOperation, Statement, veto}
use Rattle.hp_model.specs.Refusals.{Path, item_at, wrong_shape, arguments_limit, nesting_limit, over_limit, shaped}
use Rattle.hp_model.specs.Json.{Form, form_of, pair_of}
use Rattle.hp_model.specs.Parts.{contains_name, place_at, list_at}
use Rattle.hp_model.specs.Scopes as S
use Rattle.hp_model.specs.ExpressionGrammar.{expression_at}
use Rattle.hp_model.specs.AggregateGrammar as A
use Rattle.hp_model.specs.AggregateGrammar.{AggregateForm, Over, is_aggregate, aggregate_form_at, over_at, terms_at, aggregate_from, single_at, aggregate_at}
use Rattle.hp_model.specs.StatementGrammar as G
use Rattle.hp_model.specs.StatementGrammar.{assigned_names, assigned_field_at, assignment_at, assignments_at, all_assignments_at, StatementForm, statement_form_at, create_at}
use Rattle.hp_model.specs.StatementGrammar.{update_at, delete_at, arguments_at, signal_at, emit_at, veto_with_at, on_rule_at, fire_at, Reading, body_of, statements_by, if_at}
use Rattle.hp_model.specs.StatementGrammar.{each_at, query_at, for_at, with_at, sub_at, let_value_at, statement_from, statement_within}
use Rattle.hp_model.specs.Checked as C
use Rattle.hp_model.specs.Checked.{Checked, is_known, new_name_check, name_check, known_name_check, number_check, limit_check, each_check, whole_expression_check, class_check}
use Rattle.hp_model.specs.Checked.{assigned_check, assignment_check, assignments_check, create_check, update_check, delete_check, arguments_check, signal_check, over_check}
use Rattle.hp_model.specs.Checked.{terms_check, aggregate_check, let_value_check, StatementCheck, statements_check, body_check, when_check, each_row_check, for_answer_check}
use Rattle.hp_model.specs.Checked.{with_object_check, subtransaction_check, veto_check, statement_parts_check, statement_check}
use Rattle.hp_model.proofs.WellFormedParts.{Reads, Reads-value, Reads-none, Reads-any, Reads-more, Reads-then, Reads-unless, Reads-if, passes_then, name_reads, name_passes}
use Rattle.hp_model.proofs.WellFormedParts.{any_position, known_same, known_passes, new_name_reads, new_row_reads, IsNumber, place_reads, short_list_reads, limit_passes}
use Rattle.hp_model.proofs.WellFormedParts.{each_reads}
use Rattle.hp_model.proofs.WellFormedExpressions.{Passes, PartReads, expression_reads}

pub whole_expression_reads : (setting : S.Setting) → PartReads (expression_at setting) (whole_expression_check setting.names)
whole_expression_reads setting path d = expression_reads setting 16 path d

-- ---- aggregates

module _ (classes : List Name) (setting : S.Setting) where
  abbrev OverPasses : Over → Type 0
  OverPasses o = (q : Path) → over_check (length classes) setting.names q o.variable o.class o.predicate ≡ Ok tt

  over_reads : (path : Path) (variable class predicate : Data) → Reads OverPasses (over_at classes setting path variable class predicate)
  unfolding over_at over_check
  over_reads path variable class predicate =
      Reads-then (new_row_reads setting.names (item_at path 1) variable) λ x new.
      Reads-then (place_reads classes (item_at path 2) class) λ n of_class.
      Reads-then (whole_expression_reads (S.row_setting x setting) (item_at path 3) predicate) λ e of_predicate.
      Reads-value _ λ q. passes_then _ _ (new (item_at q 1)) (passes_then _ _ (of_class (item_at q 2)) (of_predicate (item_at q 3)))

  terms_reads : (path : Path) (variable class predicate term : Data)
      → Reads (λ t. (q : Path) → terms_check (length classes) setting.names q t.0.variable t.0.class t.0.predicate t.1 ≡ Ok tt) (terms_at classes setting path variable class predicate term)
  unfolding terms_at terms_check
  terms_reads path variable class predicate term =
      Reads-then (over_reads path variable class predicate) λ o of_over.
      Reads-then (whole_expression_reads (S.row_setting o.variable setting) (item_at path 4) term) λ e of_term.
      Reads-value _ λ q. passes_then _ _ (of_over q) (of_term (item_at q 4))

  abbrev IsAggregate : Aggregate → Type 0
  IsAggregate = Passes (aggregate_check (length classes) setting.names)

  aggregate_from_reads : (path : Path) (form : AggregateForm) → Reads IsAggregate (aggregate_from classes setting path form)
  aggregate_from_reads path (A.count_form variable class predicate) = Reads-then (over_reads path variable class predicate) λ o of_over. Reads-value _ of_over
  aggregate_from_reads path (A.sum_form variable class predicate term) = Reads-then (terms_reads path variable class predicate term) λ t of_terms. Reads-value _ of_terms
  aggregate_from_reads path (A.least_form variable class predicate term) = Reads-then (terms_reads path variable class predicate term) λ t of_terms. Reads-value _ of_terms
  aggregate_from_reads path (A.greatest_form variable class predicate term) = Reads-then (terms_reads path variable class predicate term) λ t of_terms. Reads-value _ of_terms
  aggregate_from_reads path (A.next_form class) = Reads-then (place_reads classes (item_at path 1) class) λ n of_class. Reads-value _ λ q. of_class (item_at q 1)

  single_reads : (path : Path) (d : Data) → Reads IsAggregate (single_at setting path d)
  unfolding single_at
  single_reads path d = Reads-then (whole_expression_reads setting path d) λ e pass. Reads-value _ pass

  pub aggregate_reads : PartReads (aggregate_at classes setting) (aggregate_check (length classes) setting.names)
  unfolding aggregate_at
  aggregate_reads path d = by (is_aggregate d)
    where
      by : (b : Bool) → Reads IsAggregate (if b then (aggregate_form_at path d >>= aggregate_from classes setting path) else single_at setting path d)
      by true = Reads-then (Reads-any (aggregate_form_at path d)) λ form _. aggregate_from_reads path form
      by false = single_reads path d

-- ---- assignments

assigned_reads : (fields assigned : List Name) → PartReads (assigned_field_at fields assigned) (assigned_check fields assigned)
unfolding assigned_field_at assigned_check
assigned_reads fields assigned path d =
    Reads-then (new_name_reads assigned path d) λ x new.
    Reads-if (contains_name fields x) _ x λ some q.
    passes_then (new_name_check assigned q x) _ (new q) (let known : is_known fields x ≡ true = sym (any_position (λ n. bytes_eq n x) 0 fields) ∙ some in rw known refl)

assignment_reads : (fields : List Field) (setting : S.Setting) (before : List Assignment)
    → PartReads (assignment_at (S.field_names fields) setting before) (assignment_check fields setting.names before)
unfolding assignment_at assignment_check
assignment_reads fields setting before path d =
    Reads-then (Reads-any (shaped path (pair_of d))) λ pair _.
    Reads-then (assigned_reads (S.field_names fields) (assigned_names before) (item_at path 0) pair.0) λ field h.
    Reads-then (whole_expression_reads setting (item_at path 1) pair.1) λ value k.
    Reads-value _ λ q. passes_then (assigned_check (S.field_names fields) (assigned_names before) (item_at q 0) field) _ (h (item_at q 0)) (k (item_at q 1))

assignments_reads : (fields : List Field) (setting : S.Setting) → PartReads (assignments_at (S.field_names fields) setting) (assignments_check fields setting.names)
unfolding assignments_at
assignments_reads fields setting path d =
    Reads-then (Reads-any (list_at path d)) λ ds _.
    Reads-more (λ pairs all. all.pass) (each_reads (assignment_at (S.field_names fields) setting) (assignment_check fields setting.names) (assignment_reads fields setting) path ds)

record Complete (fields : List Field) (setting : S.Setting) (pairs : List Assignment) : Type 0 where
  pub pass : Passes (assignments_check fields setting.names) pairs
  pub not_fewer : nat_lt (length pairs) (length fields) ≡ false

all_assignments_reads : (fields : List Field) (setting : S.Setting) (path : Path) (d : Data) → Reads (Complete fields setting) (all_assignments_at (S.field_names fields) setting path d)
unfolding all_assignments_at
all_assignments_reads fields setting path d =
    Reads-then (assignments_reads fields setting path d) λ pairs h.
    Reads-unless (nat_lt (length pairs) (length (S.field_names fields))) _ pairs λ enough. record {
      pass = h;
      not_fewer = subst (λ n. nat_lt (length pairs) n ≡ false) (length-map fields (λ (f : Field). f.name)) enough;
    }

-- ---- statements without inner statements

-- a scope in terms of checks
abbrev pub checking : S.Scope → C.Scope
checking scope = record { classes = scope.classes; rules = length scope.rules; in_action = scope.in_action; queries = scope.queries }

class_reads : (scope : S.Scope) → PartReads (place_at (S.class_names scope.classes)) (class_check (checking scope))
class_reads scope path d =
    subst (λ count. Reads (IsNumber count) (place_at (S.class_names scope.classes) path d)) (length-map scope.classes (λ (c : ClassDef). c.name)) (place_reads (S.class_names scope.classes) path d)

aggregate_class_reads : (scope : S.Scope) (setting : S.Setting) → PartReads (aggregate_at (S.class_names scope.classes) setting) (aggregate_check (length scope.classes) setting.names)
aggregate_class_reads scope setting path d =
    subst (λ count. Reads (Passes (aggregate_check count setting.names)) (aggregate_at (S.class_names scope.classes) setting path d))
    (length-map scope.classes (λ (c : ClassDef). c.name)) (aggregate_reads (S.class_names scope.classes) setting path d)

module _ (scope : S.Scope) (check : StatementCheck) (setting : S.Setting) where
  abbrev IsStatement : Statement → Type 0
  IsStatement s = (path : Path) → (veto_check (checking scope) path s >>= λ _. statement_parts_check (checking scope) check setting.names path s) ≡ Ok tt

  create_reads : (path : Path) (class key pairs : Data) → Reads IsStatement (create_at scope setting path class key pairs)
  unfolding create_at create_check
  create_reads path class key pairs =
      Reads-then (class_reads scope (item_at path 1) class) λ n of_class.
      Reads-then (whole_expression_reads setting (item_at path 2) key) λ k of_key.
      Reads-then (all_assignments_reads (C.fields_of (checking scope) n) setting (item_at path 3) pairs) λ ps complete.
      Reads-value _ λ q.
      passes_then _ _ (of_class (item_at q 1)) (passes_then _ _ (of_key (item_at q 2)) (passes_then _ _ (complete.pass (item_at q 3)) (rw complete.not_fewer refl)))

  update_reads : (path : Path) (class key pairs : Data) → Reads IsStatement (update_at scope setting path class key pairs)
  unfolding update_at update_check
  update_reads path class key pairs =
      Reads-then (class_reads scope (item_at path 1) class) λ n of_class.
      Reads-then (whole_expression_reads setting (item_at path 2) key) λ k of_key.
      Reads-then (assignments_reads (C.fields_of (checking scope) n) setting (item_at path 3) pairs) λ ps pass.
      Reads-value _ λ q. passes_then _ _ (of_class (item_at q 1)) (passes_then _ _ (of_key (item_at q 2)) (pass (item_at q 3)))

  delete_reads : (path : Path) (class key : Data) → Reads IsStatement (delete_at scope setting path class key)
  unfolding delete_at delete_check
  delete_reads path class key =
      Reads-then (class_reads scope (item_at path 1) class) λ n of_class.
      Reads-then (whole_expression_reads setting (item_at path 2) key) λ k of_key.
      Reads-value _ λ q. passes_then _ _ (of_class (item_at q 1)) (of_key (item_at q 2))

  arguments_reads : (path : Path) (d : Data) → Reads (Passes (arguments_check setting.names)) (arguments_at setting path d)
  unfolding arguments_at arguments_check
  arguments_reads path d =
      Reads-then (short_list_reads 32 arguments_limit path d) λ ds few.
      Reads-more
      (λ es all q. passes_then _ _ (limit_passes 32 arguments_limit (length es) (length ds) all.as_many few) (all.pass q))
      (each_reads (λ _. expression_at setting) (λ _. whole_expression_check setting.names) (λ _. whole_expression_reads setting) path ds)

  signal_reads : (path : Path) (name arguments : Data) → Reads IsStatement (signal_at setting path name arguments)
  unfolding signal_at signal_check
  signal_reads path name arguments =
      Reads-then (name_reads (item_at path 1) name) λ x named.
      Reads-then (arguments_reads (item_at path 2) arguments) λ es pass.
      Reads-value _ λ q. passes_then _ _ (name_passes (item_at q 1) x named) (pass (item_at q 2))

  emit_reads : (path : Path) (value : Data) → Reads IsStatement (emit_at setting path value)
  unfolding emit_at
  emit_reads path value = Reads-then (whole_expression_reads setting (item_at path 1) value) λ e pass. Reads-value _ λ q. pass (item_at q 1)

  on_rule_reads : (op : RuleOperation) (path : Path) (rule : Data) → Reads IsStatement (on_rule_at scope op path rule)
  unfolding on_rule_at
  on_rule_reads op path rule = Reads-then (place_reads scope.rules (item_at path 1) rule) λ n of_rule. Reads-value _ λ q. of_rule (item_at q 1)

  fire_reads : (path : Path) (rule : Data) → Reads IsStatement (fire_at scope path rule)
  unfolding fire_at
  fire_reads path rule = Reads-then (place_reads scope.rules (item_at path 1) rule) λ n of_rule. Reads-value _ λ q. of_rule (item_at q 1)

  query_reads : PartReads (query_at scope) (known_name_check scope.queries)
  unfolding query_at
  query_reads path d =
      Reads-then (name_reads path d) λ x named.
      Reads-if (S.is_known scope.queries x) _ x λ some q. known_passes scope.queries q x named (sym (known_same scope.queries x) ∙ some)

-- ---- bodies

same_check : (check : StatementCheck) (names : S.Names) (path : Path) (before : List Statement) (i : ℕ) (ss : List Statement)
    → each_check (λ _. check names) path before i ss ≡ statements_check check names path i (body_of ss)
same_check check names path before i [] = refl
same_check check names path before i (s ∷ ss) = ap (λ (rest : Checked). check names (item_at path i) s >>= λ _. rest) (same_check check names path (before ++ s ∷ []) (suc i) ss)

-- reading a statement agrees with checking it
abbrev pub StatementReads : Reading → StatementCheck → Type 0
StatementReads statement check = (setting : S.Setting) → PartReads (statement setting) (check setting.names)

-- statements make a body that passes
abbrev pub IsBody : StatementCheck → S.Names → List Statement → Type 0
IsBody check names ss = Passes (body_check check names) (body_of ss)

pub body_reads : (statement : Reading) (check : StatementCheck) → StatementReads statement check
    → (setting : S.Setting) (path : Path) (d : Data) → Reads (IsBody check setting.names) (statements_by statement setting path d)
unfolding statements_by
body_reads statement check each_statement setting path d =
    Reads-then (Reads-any (list_at path d)) λ ds _.
    Reads-more
    (λ ss all q. sym (same_check check setting.names q [] 0 ss) ∙ all.pass q)
    (each_reads (λ _. statement setting) (λ _. check setting.names) (λ _. each_statement setting) path ds)

-- ---- statements with inner statements

module _ (scope : S.Scope) (statement : Reading) (check : StatementCheck) (each_statement : StatementReads statement check) (setting : S.Setting) where
  if_reads : (path : Path) (test then_body else_body : Data) → Reads (IsStatement scope check setting) (if_at statement setting path test then_body else_body)
  unfolding if_at when_check
  if_reads path test then_body else_body =
      Reads-then (whole_expression_reads setting (item_at path 1) test) λ e of_test.
      Reads-then (body_reads statement check each_statement setting (item_at path 2) then_body) λ b of_then.
      Reads-then (body_reads statement check each_statement setting (item_at path 3) else_body) λ c of_else.
      Reads-value _ λ q. passes_then _ _ (of_test (item_at q 1)) (passes_then _ _ (of_then (item_at q 2)) (of_else (item_at q 3)))

  row_each_reads : (path : Path) (variable class predicate body : Data) → Reads (IsStatement scope check setting) (each_at scope statement setting path variable class predicate body)
  unfolding each_at each_row_check
  row_each_reads path variable class predicate body =
      Reads-then (new_row_reads setting.names (item_at path 1) variable) λ x new.
      Reads-then (class_reads scope (item_at path 2) class) λ n of_class.
      Reads-then (whole_expression_reads (S.row_setting x setting) (item_at path 3) predicate) λ e of_predicate.
      Reads-then (body_reads statement check each_statement (S.row_setting x setting) (item_at path 4) body) λ b of_body.
      Reads-value _ λ q.
      passes_then _ _ (new (item_at q 1)) (passes_then _ _ (of_class (item_at q 2)) (passes_then _ _ (of_predicate (item_at q 3)) (of_body (item_at q 4))))

  for_reads : (path : Path) (query body : Data) → Reads (IsStatement scope check setting) (for_at scope statement setting path query body)
  unfolding for_at for_answer_check
  for_reads path query body =
      Reads-then (query_reads scope check setting (item_at path 1) query) λ x known.
      Reads-then (body_reads statement check each_statement setting (item_at path 2) body) λ b of_body.
      Reads-value _ λ q. passes_then _ _ (known (item_at q 1)) (of_body (item_at q 2))

  with_reads : (path : Path) (variable class key body : Data) → Reads (IsStatement scope check setting) (with_at scope statement setting path variable class key body)
  unfolding with_at with_object_check
  with_reads path variable class key body =
      Reads-then (new_row_reads setting.names (item_at path 1) variable) λ x new.
      Reads-then (class_reads scope (item_at path 2) class) λ n of_class.
      Reads-then (whole_expression_reads setting (item_at path 3) key) λ e of_key.
      Reads-then (body_reads statement check each_statement (S.row_setting x setting) (item_at path 4) body) λ b of_body.
      Reads-value _ λ q.
      passes_then _ _ (new (item_at q 1)) (passes_then _ _ (of_class (item_at q 2)) (passes_then _ _ (of_key (item_at q 3)) (of_body (item_at q 4))))

  sub_reads : (path : Path) (body otherwise : Data) → Reads (IsStatement scope check setting) (sub_at statement setting path body otherwise)
  unfolding sub_at subtransaction_check
  sub_reads path body otherwise =
      Reads-then (body_reads statement check each_statement setting (item_at path 1) body) λ b of_body.
      Reads-then (body_reads statement check each_statement setting (item_at path 2) otherwise) λ c of_otherwise.
      Reads-value _ λ q. passes_then _ _ (of_body (item_at q 1)) (of_otherwise (item_at q 2))

  let_value_reads : (path : Path) (name aggregate body : Data) → Reads (IsStatement scope check setting) (let_value_at scope statement setting path name aggregate body)
  unfolding let_value_at let_value_check
  let_value_reads path name aggregate body =
      Reads-then (new_row_reads setting.names (item_at path 1) name) λ x new.
      Reads-then (aggregate_class_reads scope setting (item_at path 2) aggregate) λ a of_aggregate.
      Reads-then (body_reads statement check each_statement (S.value_setting x setting) (item_at path 3) body) λ b of_body.
      Reads-value _ λ q. passes_then _ _ (new (item_at q 1)) (passes_then _ _ (of_aggregate (item_at q 2)) (of_body (item_at q 3)))

  -- a veto is where it is allowed
  abbrev MayStand : StatementForm → Type 0
  MayStand form = (G.is_veto form && not scope.in_action) ≡ false

  form_reads : (path : Path) (d : Data) → Reads MayStand (statement_form_at setting.version scope path d)
  unfolding statement_form_at
  form_reads path d =
      Reads-then (Reads-any (shaped path (option_and_then (λ (f : Form). G.statement_form setting.version f.word f.parts) (form_of d)))) λ form _.
      Reads-unless (G.is_veto form && not scope.in_action) (wrong_shape path) form λ may. may

  veto_passes : MayStand G.veto_form → IsStatement scope check setting veto
  veto_passes may q = rw may refl

  veto_with_reads : (path : Path) (message : Data) → MayStand (G.veto_with_form message) → Reads (IsStatement scope check setting) (veto_with_at setting path message)
  unfolding veto_with_at
  veto_with_reads path message may = Reads-then (whole_expression_reads setting (item_at path 1) message) λ e pass. Reads-value _ λ q. rw may (pass (item_at q 1))

  statement_from_reads : (path : Path) (form : StatementForm) → MayStand form → Reads (IsStatement scope check setting) (statement_from scope statement setting path form)
  statement_from_reads path (G.create_form class key pairs) may = create_reads scope check setting path class key pairs
  statement_from_reads path (G.update_form class key pairs) may = update_reads scope check setting path class key pairs
  statement_from_reads path (G.delete_form class key) may = delete_reads scope check setting path class key
  statement_from_reads path (G.signal_form name arguments) may = signal_reads scope check setting path name arguments
  statement_from_reads path (G.emit_form value) may = emit_reads scope check setting path value
  statement_from_reads path (G.if_form test then_body else_body) may = if_reads path test then_body else_body
  statement_from_reads path (G.each_form variable class predicate body) may = row_each_reads path variable class predicate body
  statement_from_reads path (G.for_form query body) may = for_reads path query body
  statement_from_reads path (G.with_form variable class key body) may = with_reads path variable class key body
  statement_from_reads path (G.sub_form body otherwise) may = sub_reads path body otherwise
  statement_from_reads path (G.let_form name aggregate body) may = let_value_reads path name aggregate body
  statement_from_reads path G.abort_form may = Reads-value _ λ q. refl
  statement_from_reads path G.veto_form may = Reads-value _ (veto_passes may)
  statement_from_reads path (G.veto_with_form message) may = veto_with_reads path message may
  statement_from_reads path (G.rule_form op rule) may = on_rule_reads scope check setting op path rule
  statement_from_reads path (G.fire_form rule) may = fire_reads scope check setting path rule

-- ---- all statements

pub statement_reads : (scope : S.Scope) (levels : ℕ) → StatementReads (statement_within scope levels) (statement_check (checking scope) levels)
unfolding statement_within statement_check
statement_reads scope zero setting path d = Reads-then (Reads-any (statement_form_at setting.version scope path d)) λ form _. Reads-none (over_limit nesting_limit)
statement_reads scope (suc levels) setting path d =
    Reads-then (form_reads scope (statement_within scope levels) (statement_check (checking scope) levels) (statement_reads scope levels) setting path d) λ form may.
    statement_from_reads scope (statement_within scope levels) (statement_check (checking scope) levels) (statement_reads scope levels) setting path form may
