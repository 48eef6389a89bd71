-- What the crate's types stand for in the model: a function for each.
use Rattle.std.specs.Prelude.{ℤ, List, [], ◌∷◌, ◌≡◌, ⊤, map, Option, None, bytes_eq, slice_get, if◌then◌else◌, Result, Ok, Err, string_bytes, option_map}
use Rattle.hp_model.specs.Values as V
use Rattle.hp_model.specs.Occurrences as O
use Rattle.hp_model.specs.Expressions as E
use Rattle.hp_model.specs.Rules as R
use Rattle.hp_model.specs.Cells as S
use Rattle.hp_model.specs.Conditions as C
use Rattle.hp_model.specs.ClassParts as P
pub use Rattle.hp_value.specs.Rows.{value, kind, field, row_of}
use Rattle.hp_value.specs.declared.halt.Cause.{Cause}
use Rattle.hp_value.specs.declared.halt.Cause.TheVariants.{Exists, Missing, Kind, Overflow, DivideByZero, NoParameter, Depth, Asked}
use Rattle.hp_value.specs.declared.veto.Veto.{Veto}
use Rattle.hp_value.specs.declared.halt.Halt.{Halt}
use Rattle.hp_value.specs.declared.halt.Halt.TheVariants.{Cause as ByCause, Memory}
use Rattle.hp_value.specs.declared.cell.Cell.{Cell}
use Rattle.hp_value.specs.declared.cell.Cell.TheVariants.{Object, Rule, Detector}
use Rattle.hp_value.specs.declared.class_part.Attribute.{Attribute}
use Rattle.hp_value.specs.declared.class_part.Attribute.TheVariants.{Key, Field as FieldNamed}
use Rattle.hp_value.specs.declared.class_part.Bounds.{Bounds}
use Rattle.hp_value.specs.declared.class_part.Bounds.TheVariants.{Numbers, Texts}
use Rattle.hp_value.specs.declared.class_part.ClassPart.{ClassPart}
use Rattle.hp_value.specs.declared.row.ClassDef.{ClassDef}
use Rattle.hp_value.specs.declared.row.KeyedRow.{KeyedRow}
use Rattle.hp_value.specs.declared.occurrence.Primitive.{Primitive}
use Rattle.hp_value.specs.declared.occurrence.Primitive.TheVariants.{Create, Update, Delete, Signal, Commit, Time}
use Rattle.hp_value.specs.declared.occurrence.Occurrence.{Occurrence}
use Rattle.hp_value.specs.declared.occurrence.Coupling.{Coupling}
use Rattle.hp_value.specs.declared.occurrence.Coupling.TheVariants.{Immediate, Deferred, Separate, Dependent, Exclusive}
use Rattle.hp_value.specs.declared.rule_operation.RuleOperation.{RuleOperation}
use Rattle.hp_value.specs.declared.rule_operation.RuleOperation.TheVariants.{Install, Enable, Disable, Remove}
use Rattle.hp_value.specs.declared.operand.Operand.{Operand}
use Rattle.hp_value.specs.declared.operand.Operand.TheVariants.{Int, Bool as Truth, Text}
use Rattle.hp_value.specs.declared.expr.Arithmetic.{Arithmetic}
use Rattle.hp_value.specs.declared.expr.Arithmetic.TheVariants.{Plus, Minus, Times, Quotient, Remainder}
use Rattle.hp_value.specs.declared.expr.Comparison.{Comparison}
use Rattle.hp_value.specs.declared.expr.Comparison.TheVariants.{Equal, Unequal, Less, AtMost, Greater, AtLeast}
use Rattle.hp_value.specs.declared.expr.Expr.{Expr}
use Rattle.hp_value.specs.declared.expr.Expr.TheVariants.{Constant, Arithmetic', Comparison', Negated', Not', And', Or', FieldOf, KeyOf, NewField, OldField, KeyIn, Argument}
use Rattle.hp_value.specs.declared.expr.Expr.TheVariants.{TimeOf, Count, ValueOf, Now}
use Rattle.hp_value.specs.declared.env.Answer.{Answer}
use Rattle.hp_value.specs.declared.env.Names.{Names, fold-Names}
use Rattle.hp_value.specs.declared.env.Names.TheOpen.{Names-F}
use Rattle.hp_value.specs.declared.env.NamedValue.{NamedValue}
use Rattle.hp_value.specs.declared.env.Values.{Values, fold-Values}
use Rattle.hp_value.specs.declared.env.Values.TheOpen.{Values-F}
use Rattle.hp_value.specs.declared.env.Env.{Env}

abbrev pub class_def : ClassDef → V.ClassDef
class_def c = record { name = string_bytes c.name; fields = map field c.fields.value.items }

abbrev pub cause : Cause → V.Cause
cause Exists = V.exists
cause Missing = V.missing
cause Kind = V.wrong_kind
cause Overflow = V.overflow
cause DivideByZero = V.divide_by_zero
cause NoParameter = V.no_parameter
cause Depth = V.depth_exceeded
cause Asked = V.requested

abbrev pub veto : Veto → V.Veto
veto v = record { rule = v.told.value.rule; message = option_map value v.told.value.message }

-- a result, with its value mapped by f
abbrev pub outcome : {A B : Type 0} → (A → B) → Result A Cause → V.Outcome B
outcome f (Ok x) = Ok (f x)
outcome f (Err c) = Err (cause c)

-- the result, with its value mapped by f, is the model's, unless memory ran out
abbrev pub Meets : {A B : Type 0} → (A → B) → Result A Halt → V.Outcome B → Type 0
Meets f (Ok x) o = Ok (f x) ≡ o
Meets f (Err (ByCause c)) o = Err (cause c) ≡ o
Meets f (Err Memory) o = ⊤

-- a value where it stands
abbrev pub operand : Operand → V.Value
operand (Int z) = V.integer z
operand (Truth b) = V.boolean b
operand (Text s) = V.text (string_bytes s.now)

abbrev pub cell : Cell → S.Cell
cell (Object class key) = S.object_cell class key
cell (Rule n) = S.rule_cell n
cell (Detector n) = S.detector_cell n

abbrev pub keyed_row : KeyedRow → V.KeyedRow
keyed_row r = record { key = r.key; row = r.row }

-- the keys of objects
abbrev pub keys_of : List V.KeyedRow → List ℤ
keys_of = map (λ (o : V.KeyedRow). o.key)

abbrev pub primitive : Primitive → O.Primitive
primitive (Create class key new) = O.created class key new
primitive (Update class key old new) = O.updated class key old new
primitive (Delete class key old) = O.deleted class key old
primitive (Signal name args) = O.signalled (string_bytes name) (map value args.items)
primitive Commit = O.commit_reached
primitive (Time t) = O.moment_reached t

abbrev pub occurrence : Occurrence → O.Occurrence
occurrence o = record { parts = map primitive o.parts.items; count = o.count }

abbrev pub rule_operation : RuleOperation → R.RuleOperation
rule_operation Install = R.install
rule_operation Enable = R.enable
rule_operation Disable = R.disable
rule_operation Remove = R.remove

abbrev pub coupling : Coupling → R.Coupling
coupling Immediate = R.immediate
coupling Deferred = R.deferred
coupling Separate = R.separate
coupling Dependent = R.dependent
coupling Exclusive = R.exclusive

abbrev pub arithmetic : Arithmetic → E.Arithmetic
arithmetic Plus = E.plus
arithmetic Minus = E.minus
arithmetic Times = E.times
arithmetic Quotient = E.quotient
arithmetic Remainder = E.remainder

abbrev pub comparison : Comparison → E.Comparison
comparison Equal = E.equal
comparison Unequal = E.unequal
comparison Less = E.less
comparison AtMost = E.at_most
comparison Greater = E.greater
comparison AtLeast = E.at_least

abbrev pub expression : Expr → E.Expression
expression (Constant c) = E.constant (value c.value)
expression (Arithmetic' op p a q b) = E.arithmetic (arithmetic op) (expression a) (expression b)
expression (Comparison' op p a q b) = E.compared (comparison op) (expression a) (expression b)
expression (Negated' p a) = E.negated (expression a)
expression (Not' p a) = E.inverted (expression a)
expression (And' p a q b) = E.both (expression a) (expression b)
expression (Or' p a q b) = E.either (expression a) (expression b)
expression (FieldOf x f) = E.field_of (string_bytes x) (string_bytes f)
expression (KeyOf x) = E.key_of (string_bytes x)
expression (NewField i f) = E.new_field i (string_bytes f)
expression (OldField i f) = E.old_field i (string_bytes f)
expression (KeyIn i) = E.key_in i
expression (Argument i j) = E.argument i j
expression (TimeOf i) = E.time_of i
expression Count = E.occurrence_count
expression (ValueOf x) = E.value_named (string_bytes x)
expression Now = E.time_now

-- a query's name with the rows of its answer
abbrev pub answer : Answer → V.Name × List V.KeyedRow
answer a = (string_bytes a.name, map keyed_row a.rows.items)

abbrev pub answers : List Answer → C.Answers
answers as' = map answer as'

-- the rows by name that answers alone bind
abbrev pub answered_rows : C.Answers → List (V.Name × V.KeyedRow)
answered_rows as' = (C.with_answers (record { occurrence = None; rows = []; values = []; now = 0 }) as').rows

-- a value with its name
abbrev pub named_value : NamedValue → V.Name × V.Value
named_value v = (string_bytes v.name, value v.value)

abbrev pub named_values : List NamedValue → V.NamedValues
named_values vs = map named_value vs

-- the values by name that a condition's values alone bind
abbrev pub found_values : V.NamedValues → V.NamedValues
found_values vs = (C.with_values (record { occurrence = None; rows = []; values = []; now = 0 }) vs).values

-- the row that one answer binds to a name
abbrev pub first_under : V.Name → V.Name × List V.KeyedRow → Option V.KeyedRow
first_under x a = if bytes_eq x a.0 then slice_get a.1 0 else None

abbrev pub rows_step : Names-F (List (V.Name × V.KeyedRow)) → List (V.Name × V.KeyedRow)
rows_step (Names-F.Answers as') = answered_rows (answers as'.now)
rows_step (Names-F.Bound name key row outer) = (name.now, record { key = key; row = row.now }) ∷ outer.now

-- the rows by name, the innermost first
abbrev pub rows_in : Names → List (V.Name × V.KeyedRow)
rows_in = fold-Names (List (V.Name × V.KeyedRow)) rows_step

abbrev pub values_step : Values-F V.NamedValues → V.NamedValues
values_step (Values-F.Found vs) = found_values (named_values vs.now)
values_step (Values-F.Bound name v outer) = (name.now, value v.now) ∷ outer.now

-- the values by name, the innermost first
abbrev pub values_in : Values → V.NamedValues
values_in = fold-Values V.NamedValues values_step

abbrev pub environment : Env → E.Environment
environment env =
    record { occurrence = option_map (λ o. occurrence o.now) env.occurrence; rows = rows_in env.rows; values = values_in env.values; now = env.time }

abbrev pub attribute : Attribute → P.Attribute
attribute Key = P.key_attribute
attribute (FieldNamed f) = P.field_attribute f.now

abbrev pub low : Bounds → Option V.Value
low (Numbers l h) = option_map V.integer l
low (Texts l h) = option_map (λ s. V.text s.now) l

abbrev pub high : Bounds → Option V.Value
high (Numbers l h) = option_map V.integer h
high (Texts l h) = option_map (λ s. V.text s.now) h

abbrev pub class_part : ClassPart → P.ClassPart
class_part p = record { attribute = attribute p.attribute; low = low p.bounds; high = high p.bounds }
