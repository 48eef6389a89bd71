-- What fits: numbers are within the bounds of their types, and rows have the fields of their classes.
use Rattle.std.specs.Prelude.{⊤, List, Option, None, Some, IsTrue}
use Rattle.std.specs.List.{AllByRecursion}
use Rattle.hp_model.specs.Values.{Name, NamedValues, Value, Row, KeyedRow, fits_64, value_fits}
use Rattle.hp_model.specs.Occurrences.{Primitive, Occurrence}
use Rattle.hp_model.specs.Expressions.{Environment}
use Rattle.hp_model.specs.Conditions.{Answers, Findings}
use Rattle.hp_model.specs.Rules.{Library}
use Rattle.hp_model.specs.State.{Objects, ObjectName, object_fits, primitive_fits}
use Rattle.hp_model.specs.Tree.{Task, Step, condition_step, action_step}

abbrev pub ValueFits : Value → Type 0
ValueFits v = IsTrue (value_fits v)

abbrev pub ValuesFit : NamedValues → Type 0
ValuesFit values = AllByRecursion (λ (v : Name × Value). ValueFits v.1) values

abbrev pub RowFits : Row → Type 0
RowFits row = AllByRecursion (λ (v : Name × Value). ValueFits v.1) row

abbrev pub KeyedFits : KeyedRow → Type 0
KeyedFits r = IsTrue (fits_64 r.key) × RowFits r.row

abbrev pub RowsFit : List KeyedRow → Type 0
RowsFit rows = AllByRecursion KeyedFits rows

abbrev pub PrimitiveFits : Library → Primitive → Type 0
PrimitiveFits library p = IsTrue (primitive_fits library p)

abbrev pub OccurrenceFits : Library → Occurrence → Type 0
OccurrenceFits library o = AllByRecursion (PrimitiveFits library) o.parts

abbrev pub OptionFits : Library → Option Occurrence → Type 0
OptionFits library None = ⊤
OptionFits library (Some o) = OccurrenceFits library o

abbrev pub EnvironmentFits : Library → Environment → Type 0
EnvironmentFits library env =
    OptionFits library env.occurrence × AllByRecursion (λ (b : Name × KeyedRow). KeyedFits b.1) env.rows × ValuesFit env.values

abbrev pub AnswersFit : Answers → Type 0
AnswersFit answers = AllByRecursion (λ (a : Name × List KeyedRow). RowsFit a.1) answers

abbrev pub ObjectsFit : Library → Objects → Type 0
ObjectsFit library objects = AllByRecursion (λ (o : ObjectName × Row). IsTrue (object_fits library o.0.class o.0.key o.1)) objects

abbrev pub FindingsFit : Findings → Type 0
FindingsFit found = AnswersFit found.answers × ValuesFit found.values

-- what a step of a firing carries: what its condition found
abbrev pub StepFits : Step → Type 0
StepFits condition_step = ⊤
StepFits (action_step found) = FindingsFit found

-- what a task carries fits
abbrev pub TaskFits : Library → Task → Type 0
TaskFits library t = StepFits t.step × OccurrenceFits library t.occurrence
