-- What the parts of statements stand for in the model, and the statement of a value.
use Rattle.std.specs.Prelude.{ℕ, ◌+◌, ◌≤◌, List, Option, option_and_then}
use Rattle.serde_json.specs.Data.{Data}
use Rattle.hp_model.specs.Json.{Form, form_of}
use Rattle.hp_model.specs.NotationForms as F
use Rattle.hp_model.specs.NotationValues.{statement_of_form, body_of, each_of}
use Rattle.hp_print.specs.declared.body.Nest.{Nest}
use Rattle.hp_print.specs.declared.statement.Setting.{Setting}
use Rattle.hp_print.specs.declared.statement.Setting.TheVariants.{Create, Update}
use Rattle.hp_print.specs.declared.statement.RuleOperation.{RuleOperation}
use Rattle.hp_print.specs.declared.statement.RuleOperation.TheVariants as r

abbrev pub setting_view : Setting → F.Setting
setting_view Create = F.create
setting_view Update = F.update

abbrev pub operation_view : RuleOperation → F.RuleOperation
operation_view r.Install = F.install
operation_view r.Enable = F.enable
operation_view r.Disable = F.disable
operation_view r.Remove = F.remove
operation_view r.Fire = F.fire

-- a statement whose bodies have at most this number of levels
abbrev pub statement_within : (levels : ℕ) → Data → Option F.Statement
statement_within n s = option_and_then (λ (f : Form). statement_of_form (body_of n) f.word f.parts) (form_of s)

-- the statements of a list, if all are statements
abbrev pub statements_within : (levels : ℕ) → List Data → Option (List F.Statement)
statements_within n ss = each_of (statement_within n) ss

-- the indentation is bounded, since levels of bodies are
abbrev pub IsShallow : Nest → Type 0
IsShallow nest = nest.depth + nest.levels ≤ 65
