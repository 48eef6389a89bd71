-- What stands at a place of a library or a body, with what is known there; and that it is rightly refused.
use Rattle.std.specs.Prelude.{◌⊎◌, ℕ, zero, suc, Bool, true, false, ◌≡◌, List, [], ◌∷◌, take, Option, Some, None, bytes_eq, slice_get, unwrap_or}
use Rattle.std.specs.List.{slice_index_or, AllByRecursion}
use Rattle.std.specs.Map.{lookup}
use Rattle.hp_model.specs.Values.{Name, integer_kind, boolean_kind, text_kind, Field}
use Rattle.hp_model.specs.Expressions.{Expression, arithmetic, negated, inverted, both, either, compared}
use Rattle.hp_model.specs.Rules.{Aggregate, count_over, sum_over, least_over, greatest_over, single, Entry, query_entry, no_entry, let_entry}
use Rattle.hp_model.specs.Rules.{Assignment, Statement, create, update, delete, signal, emit, when, each, for_answer, with_object, subtransaction, let_value, veto_with, Body}
use Rattle.hp_model.specs.Rules.{empty, ◌then◌, Rule, Library, class_at}
use Rattle.hp_model.specs.Firing.{kind_in}
use Rattle.hp_model.specs.Cascade.{Unit, transaction, moment}
use Rattle.hp_model.specs.Refusals.{to_member, to_item, Path}
use Rattle.hp_model.specs.Kinds.{Sort, only, any, Declared, is_fired, Columns, columns_by, Scope, with_name, with_sort, no_scope, is_only, all_assigned, aggregate_sort}
use Rattle.hp_model.specs.Kinds.{with_entries, query_classes, sort_of, statement_kinded}
use Rattle.hp_analysis.specs.Findings.{Wanted, of_kind, of_known_kind, of_ordered_kind, Reason, unsuited, Finding, first_scope}

-- ---- parts

pub data Part : Type 0 where
  expression_part : Scope → Expression → Part
  statement_part : Scope → (queries : List (Name × ℕ)) → Statement → Part
  -- the field that an assignment sets, of a class with these fields
  field_part : List Field → Name → Part
  -- the assignments of a new object, of a class with these fields
  pairs_part : List Field → List Assignment → Part
  -- the query whose answer a statement goes over
  query_part : (queries : List (Name × ℕ)) → Name → Part

abbrev pub along : {A B : Type 0} → Option A → (A → Option B) → Option B
along None f = None
along (Some x) f = f x

-- the item of this index
abbrev pub item_of : {A : Type 0} → List (Option A) → ℕ → Option A
item_of xs i = slice_index_or xs i None

abbrev pub operand : ℕ → Expression → Option Expression
operand i (arithmetic op a b) = item_of (None ∷ Some a ∷ Some b ∷ []) i
operand i (negated a) = item_of (None ∷ Some a ∷ []) i
operand i (inverted a) = item_of (None ∷ Some a ∷ []) i
operand i (both a b) = item_of (None ∷ Some a ∷ Some b ∷ []) i
operand i (either a b) = item_of (None ∷ Some a ∷ Some b ∷ []) i
operand i (compared op a b) = item_of (None ∷ Some a ∷ Some b ∷ []) i
operand i e = None

abbrev pub part_in_expression : Scope → Path → Expression → Option Part
part_in_expression scope [] e = Some (expression_part scope e)
part_in_expression scope (to_member m ∷ steps) e = None
part_in_expression scope (to_item i ∷ steps) e = along (operand i e) (λ a. part_in_expression scope steps a)

-- the items of an aggregate over rows
abbrev pub terms_item : Scope → Path → (predicate : Expression) → (term : Option Part) → List (Option Part)
terms_item scope steps predicate term = None ∷ None ∷ None ∷ part_in_expression scope steps predicate ∷ term ∷ []

-- an aggregate that is an expression has the expression's parts
abbrev pub part_in_aggregate : Scope → Path → Aggregate → Option Part
part_in_aggregate scope steps (single e) = part_in_expression scope steps e
part_in_aggregate scope (to_item i ∷ steps) (count_over x class predicate) = item_of (terms_item (with_name x class scope) steps predicate None) i
part_in_aggregate scope (to_item i ∷ steps) (sum_over x class predicate term) =
    item_of (terms_item (with_name x class scope) steps predicate (part_in_expression (with_name x class scope) steps term)) i
part_in_aggregate scope (to_item i ∷ steps) (least_over x class predicate term) =
    item_of (terms_item (with_name x class scope) steps predicate (part_in_expression (with_name x class scope) steps term)) i
part_in_aggregate scope (to_item i ∷ steps) (greatest_over x class predicate term) =
    item_of (terms_item (with_name x class scope) steps predicate (part_in_expression (with_name x class scope) steps term)) i
part_in_aggregate scope steps a = None

abbrev pub part_in_pair : Scope → List Field → Path → Assignment → Option Part
part_in_pair scope fields [] a = None
part_in_pair scope fields (to_member m ∷ steps) a = None
part_in_pair scope fields (to_item i ∷ steps) a = item_of (Some (field_part fields a.field) ∷ part_in_expression scope steps a.value ∷ []) i

abbrev pub part_in_pairs : Scope → List Field → Path → List Assignment → Option Part
part_in_pairs scope fields [] pairs = Some (pairs_part fields pairs)
part_in_pairs scope fields (to_member m ∷ steps) pairs = None
part_in_pairs scope fields (to_item i ∷ steps) pairs = along (slice_get pairs i) (λ a. part_in_pair scope fields steps a)

abbrev pub part_in_arguments : Scope → Path → List Expression → Option Part
part_in_arguments scope [] es = None
part_in_arguments scope (to_member m ∷ steps) es = None
part_in_arguments scope (to_item i ∷ steps) es = along (slice_get es i) (λ e. part_in_expression scope steps e)

abbrev pub statement_at : ℕ → Body → Option Statement
statement_at i empty = None
statement_at zero (s then rest) = Some s
statement_at (suc i) (s then rest) = statement_at i rest

-- the items of a statement that sets a row
abbrev pub row_item : Library → Scope → Path → (class : ℕ) → Expression → List Assignment → List (Option Part)
row_item library scope steps class key pairs =
    None ∷ None ∷ part_in_expression scope steps key ∷ part_in_pairs scope (class_at library class).fields steps pairs ∷ []

abbrev mutual
  pub part_in_statement : Library → Declared → Scope → List (Name × ℕ) → Path → Statement → Option Part
  part_in_statement library d scope queries [] s = Some (statement_part scope queries s)
  part_in_statement library d scope queries (to_member m ∷ steps) s = None
  part_in_statement library d scope queries (to_item i ∷ steps) (create class key pairs) = item_of (row_item library scope steps class key pairs) i
  part_in_statement library d scope queries (to_item i ∷ steps) (update class key pairs) = item_of (row_item library scope steps class key pairs) i
  part_in_statement library d scope queries (to_item i ∷ steps) (delete class key) = item_of (None ∷ None ∷ part_in_expression scope steps key ∷ []) i
  part_in_statement library d scope queries (to_item i ∷ steps) (signal name arguments) = item_of (None ∷ None ∷ part_in_arguments scope steps arguments ∷ []) i
  part_in_statement library d scope queries (to_item i ∷ steps) (emit e) = item_of (None ∷ part_in_expression scope steps e ∷ []) i
  part_in_statement library d scope queries (to_item i ∷ steps) (when e a b) =
      item_of (None ∷ part_in_expression scope steps e ∷ part_in_body library d scope queries steps a ∷ part_in_body library d scope queries steps b ∷ []) i
  part_in_statement library d scope queries (to_item i ∷ steps) (each x class predicate body) =
      item_of (None ∷ None ∷ None ∷ part_in_expression (with_name x class scope) steps predicate ∷ part_in_body library d (with_name x class scope) queries steps body ∷ []) i
  part_in_statement library d scope queries (to_item i ∷ steps) (for_answer x body) =
      item_of (None ∷ Some (query_part queries x) ∷ part_in_body library d (with_name x (unwrap_or (lookup (bytes_eq x) queries) 0) scope) queries steps body ∷ []) i
  part_in_statement library d scope queries (to_item i ∷ steps) (with_object x class key body) =
      item_of (None ∷ None ∷ None ∷ part_in_expression scope steps key ∷ part_in_body library d (with_name x class scope) queries steps body ∷ []) i
  part_in_statement library d scope queries (to_item i ∷ steps) (subtransaction a b) =
      item_of (None ∷ part_in_body library d scope queries steps a ∷ part_in_body library d scope queries steps b ∷ []) i
  part_in_statement library d scope queries (to_item i ∷ steps) (let_value x a body) =
      item_of (None ∷ None ∷ part_in_aggregate scope steps a
      ∷ part_in_body library d (with_sort x (unwrap_or (aggregate_sort library d scope a) any) scope) queries steps body ∷ []) i
  part_in_statement library d scope queries (to_item i ∷ steps) (veto_with e) = item_of (None ∷ part_in_expression scope steps e ∷ []) i
  part_in_statement library d scope queries (to_item i ∷ steps) s = None

  pub part_in_body : Library → Declared → Scope → List (Name × ℕ) → Path → Body → Option Part
  part_in_body library d scope queries [] body = None
  part_in_body library d scope queries (to_member m ∷ steps) body = None
  part_in_body library d scope queries (to_item i ∷ steps) body = along (statement_at i body) (λ s. part_in_statement library d scope queries steps s)

-- a query's predicate is its item 2, and that of a query without an answer its item 3
abbrev pub part_in_entry : Scope → Path → Entry → Option Part
part_in_entry scope [] e = None
part_in_entry scope (to_member m ∷ steps) e = None
part_in_entry scope (to_item i ∷ steps) (query_entry q) = item_of (None ∷ None ∷ part_in_expression (with_name q.name q.class scope) steps q.predicate ∷ []) i
part_in_entry scope (to_item i ∷ steps) (no_entry q) = item_of (None ∷ None ∷ None ∷ part_in_expression (with_name q.name q.class scope) steps q.predicate ∷ []) i
part_in_entry scope (to_item i ∷ steps) (let_entry x a) = item_of (None ∷ None ∷ part_in_aggregate scope steps a ∷ []) i

-- the scope after the entries of a condition
abbrev pub scope_after : Library → Declared → Columns → List Entry → Scope
scope_after library d columns entries = with_entries library d (first_scope columns) entries

abbrev pub part_in_condition : Library → Declared → Columns → Path → List Entry → Option Part
part_in_condition library d columns [] entries = None
part_in_condition library d columns (to_member m ∷ steps) entries = None
part_in_condition library d columns (to_item i ∷ steps) entries =
    along (slice_get entries i) (λ e. part_in_entry (scope_after library d columns (take i entries)) steps e)

abbrev pub part_in_rule : Library → Declared → (fired : Bool) → Path → Rule → Option Part
part_in_rule library d fired [] rule = None
part_in_rule library d fired (to_member m ∷ steps) rule = None
part_in_rule library d fired (to_item i ∷ steps) rule =
    item_of (None ∷ None ∷ None ∷ part_in_condition library d (columns_by fired rule.event) steps rule.condition ∷ None
    ∷ part_in_body library d (scope_after library d (columns_by fired rule.event) rule.condition) (query_classes rule.condition) steps rule.action ∷ []) i

abbrev pub part_in_rules : Library → Declared → Path → Option Part
part_in_rules library d [] = None
part_in_rules library d (to_member m ∷ steps) = None
part_in_rules library d (to_item n ∷ steps) = along (slice_get library.rules n) (λ rule. part_in_rule library d (is_fired d n) steps rule)

-- by its path in the script
abbrev pub part_in_library : Library → Declared → Path → Option Part
part_in_library library d [] = None
part_in_library library d (to_item n ∷ steps) = None
part_in_library library d (to_member m ∷ steps) = part_in_rules library d steps

-- by its path in the body
abbrev pub part_in_unit : Library → Declared → Path → Unit → Option Part
part_in_unit library d steps (transaction now body) = part_in_body library d no_scope [] steps body
part_in_unit library d steps (moment t) = None

-- ---- what is rightly refused

abbrev pub is_wanted : Wanted → Sort → Bool
is_wanted (of_kind k) s = is_only k (Some s)
is_wanted of_known_kind (only k) = true
is_wanted of_known_kind any = false
is_wanted of_ordered_kind (only integer_kind) = true
is_wanted of_ordered_kind (only boolean_kind) = false
is_wanted of_ordered_kind (only text_kind) = true
is_wanted of_ordered_kind any = false

-- the expression has another sort than the reason says is wanted
abbrev pub Misfits : Reason → Option Sort → Type 0
Misfits (unsuited w s) o = (o ≡ Some s) × (is_wanted w s ≡ false)
Misfits reason o = ⊥

-- the judgement fails at the part
abbrev pub IsRefused : Library → Declared → Part → Reason → Type 0
IsRefused library d (expression_part scope e) reason = (sort_of library d scope e ≡ None) ⊎ Misfits reason (sort_of library d scope e)
IsRefused library d (statement_part scope queries s) reason = statement_kinded library d scope queries s ≡ false
IsRefused library d (field_part fields x) reason = kind_in fields x ≡ None
IsRefused library d (pairs_part fields pairs) reason = all_assigned fields pairs ≡ false
IsRefused library d (query_part queries x) reason = lookup (bytes_eq x) queries ≡ None

-- a finding names a part, and the judgement fails there
abbrev pub IsPlaced : Library → Declared → (Path → Option Part) → Finding → Type 0
IsPlaced library d parts f = (part : Part) × (parts f.path ≡ Some part) × IsRefused library d part f.reason

abbrev pub ArePlaced : Library → Declared → (Path → Option Part) → List Finding → Type 0
ArePlaced library d parts = AllByRecursion (IsPlaced library d parts)
