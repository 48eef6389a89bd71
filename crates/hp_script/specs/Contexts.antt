-- What the grammar reads in a context, and the setting there.
use Rattle.std.specs.Prelude.{ℕ, List}
use Rattle.serde_json.specs.Data.{Data}
use Rattle.hp_model.specs.Rules.{Statement}
use Rattle.hp_model.specs.Refusals.{Decoded}
use Rattle.hp_model.specs.Scopes.{Setting}
use Rattle.hp_model.specs.StatementGrammar.{StatementForm, statement_from, statement_within, statements_by}
use Rattle.hp_rule.specs.Places.{steps}
use Rattle.hp_script.specs.Forms.{scope_view}
use Rattle.hp_rule.specs.declared.context.Context.{Context}
use Rattle.hp_script.specs.declared.scope.Scope.{Scope}
use Rattle.hp_script.specs.Settings.{setting_in}

abbrev pub setting_here : Context Scope → Setting
setting_here c = setting_in c.scope c.names

-- the statement of a form, with at most this many levels of statements in it
abbrev pub form_here : Context Scope → (levels : ℕ) → StatementForm → Decoded Statement
form_here c levels form =
    let scope = scope_view c.scope in
    statement_from scope (statement_within scope levels) (setting_here c) (steps c.place) form

-- the statement that a value is, of at most this many levels
abbrev pub statement_here : Context Scope → (levels : ℕ) → Data → Decoded Statement
statement_here c levels d = statement_within (scope_view c.scope) levels (setting_here c) (steps c.place) d

-- the statements of a body, each of at most this many levels
abbrev pub statements_here : Context Scope → (levels : ℕ) → Data → Decoded (List Statement)
statements_here c levels d =
    statements_by (statement_within (scope_view c.scope) levels) (setting_here c) (steps c.place) d
