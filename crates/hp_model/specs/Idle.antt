-- Rules that are never installed, and the law that a script does the same without them.
use Rattle.std.specs.Prelude.{◌≡◌, ℕ, suc, Bool, IsTrue, List, [], ◌∷◌, ◌++◌, length, if◌then◌else◌}
use Rattle.std.specs.List.{list_all, AllByRecursion}
use Rattle.hp_model.specs.Events.{Event, pattern_event, on_create}
use Rattle.hp_model.specs.Rules.{RuleOperation, install, Statement, when, each, for_answer, with_object, subtransaction, let_value, on_rule, Body, empty, ◌then◌, Rule, Library, rule_at}
use Rattle.hp_model.specs.Cascade.{Unit, transaction, moment, Script, evaluate}
use Rattle.hp_model.specs.Chains.{NotTooDeep, is_safe_script}
use Rattle.hp_model.specs.Endings.{everywhere, ReportHasOnly}

-- ---- what may be installed

-- the other operations change no rule that is absent
abbrev pub operation_installs : RuleOperation → (rule : ℕ) → List ℕ
operation_installs install n = n ∷ []
operation_installs op n = []

abbrev mutual
  pub statement_installs : Statement → List ℕ
  statement_installs (when e then_body else_body) = body_installs then_body ++ body_installs else_body
  statement_installs (each x class predicate body) = body_installs body
  statement_installs (for_answer x body) = body_installs body
  statement_installs (with_object x class key body) = body_installs body
  statement_installs (subtransaction body otherwise) = body_installs body ++ body_installs otherwise
  statement_installs (let_value x a body) = body_installs body
  statement_installs (on_rule op n) = operation_installs op n
  statement_installs s = []

  pub body_installs : Body → List ℕ
  body_installs empty = []
  body_installs (s then rest) = statement_installs s ++ body_installs rest

abbrev pub unit_installs : Unit → List ℕ
unit_installs (transaction now body) = body_installs body
unit_installs (moment t) = []

-- what the action of a rule of the set may install is in the set
abbrev pub IsInstallClosed : Library → (present : ℕ → Bool) → Type 0
IsInstallClosed library present = (n : ℕ) → IsTrue (present n) → IsTrue (list_all present (body_installs (rule_at library n).action))

-- ---- a library without the rules outside the set

-- no class has the number of all classes, so that no object of it is created
abbrev pub never : (classes : ℕ) → Event
never classes = pattern_event (on_create classes)

-- a rule that does nothing
abbrev pub idle_rule : (classes : ℕ) → Rule → Rule
idle_rule classes rule =
    record {
      name = rule.name;
      event = never classes;
      event_coupling = rule.event_coupling;
      condition = rule.condition;
      action_coupling = rule.action_coupling;
      action = empty;
      closed = rule.closed;
    }

-- the first rule of the list is the n-th
abbrev pub idle_from : (present : ℕ → Bool) → (classes n : ℕ) → List Rule → List Rule
idle_from present classes n [] = []
idle_from present classes n (rule ∷ rules) = (if present n then rule else idle_rule classes rule) ∷ idle_from present classes (suc n) rules

abbrev pub with_idle : (present : ℕ → Bool) → Library → Library
with_idle present library =
    record { classes = library.classes; rules = idle_from present (length library.classes) 0 library.rules; depth_limit = library.depth_limit }

-- ---- the laws

-- only rules of the set are ever installed
abbrev pub InstallsOnly : (present : ℕ → Bool) → Script → Type 0
InstallsOnly present script = IsInstallClosed script.library present × AllByRecursion (λ (u : Unit). IsTrue (list_all present (unit_installs u))) script.units

-- then the others may as well do nothing
abbrev pub OthersAreIdle : Type 0
OthersAreIdle = (script : Script) (present : ℕ → Bool) → InstallsOnly present script → evaluate script ≡ evaluate (record { library = with_idle present script.library; units = script.units })

-- so a script never meets the depth limit if it is safe without them
abbrev pub NeverTooDeepByIdle : Type 0
NeverTooDeepByIdle = (script : Script) (present : ℕ → Bool) → InstallsOnly present script → IsTrue (is_safe_script (record { library = with_idle present script.library; units = script.units }))
    → AllByRecursion (ReportHasOnly (everywhere NotTooDeep)) (evaluate script).units
