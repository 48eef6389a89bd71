-- Chains of firings: which rules a firing may trigger, read off the library alone; how long the chains are; and the law
-- that where no chain is longer than firings may nest, none nests too deep.
use Rattle.std.specs.Prelude.{ℕ, zero, suc, pos, ◌+◌, ◌*◌, ◌≤◌, nat_lt, Bool, false, ◌&&◌, ◌||◌, IsTrue, List, [], ◌∷◌, ◌++◌, length, if◌then◌else◌, ⊤, ◌≡◌, Option, Some, None}
use Rattle.std.specs.List.{list_all, AllByRecursion}
use Rattle.hp_model.specs.Values.{Cause, exists, missing, wrong_kind, overflow, divide_by_zero, no_parameter, depth_exceeded, requested, vetoed}
use Rattle.hp_model.specs.Occurrences.{Primitive, created, updated, deleted, signalled, commit_reached, moment_reached}
use Rattle.hp_model.specs.Events.{Event, pattern_event, or_event, seq_event, closure_event, matches}
use Rattle.hp_model.specs.Rules.{is_detached, Statement, create, update, delete, signal, emit, when, each, for_answer, with_object, subtransaction, let_value, abort, veto}
use Rattle.hp_model.specs.Rules.{veto_with, on_rule, fire, Body, empty, ◌then◌, Rule, Library, rule_at}
use Rattle.hp_model.specs.State.{State}
use Rattle.hp_model.specs.Tree.{Task, Node, sub_node, fire_node, act_node, Items, no_items, operation, emission, detachment, node}
use Rattle.hp_model.specs.Cascade.{Unit, transaction, moment, Transaction, transactions_of, run_unit, Script, evaluate}
use Rattle.hp_model.specs.Endings.{everywhere, TransactionsHaveOnly, ReportHasOnly}

-- ---- what may trigger what

-- whether an occurrence of the event may end with this one
abbrev pub completes : Event → Primitive → Bool
completes (pattern_event pattern) p = matches pattern p
completes (or_event a b) p = completes a p || completes b p
completes (seq_event a b) p = completes b p
completes (closure_event a t) p = completes t p

-- the numbers of the rules whose event it may complete; the first rule of the list is the n-th
abbrev pub triggers_from : ℕ → List Rule → Primitive → List ℕ
triggers_from n [] p = []
triggers_from n (rule ∷ rules) p = if completes rule.event p then n ∷ triggers_from (suc n) rules p else triggers_from (suc n) rules p

abbrev pub signal_triggers : Library → Primitive → List ℕ
signal_triggers library p = triggers_from 0 library.rules p

-- the rules that a statement may trigger, whatever its keys, rows and arguments are
abbrev mutual
  pub statement_triggers : Library → Statement → List ℕ
  statement_triggers library (create class key assignments) = signal_triggers library (created class (pos 0) [])
  statement_triggers library (update class key assignments) = signal_triggers library (updated class (pos 0) [] [])
  statement_triggers library (delete class key) = signal_triggers library (deleted class (pos 0) [])
  statement_triggers library (signal name arguments) = signal_triggers library (signalled name [])
  statement_triggers library (emit e) = []
  statement_triggers library (when e then_body else_body) = body_triggers library then_body ++ body_triggers library else_body
  statement_triggers library (each x class predicate body) = body_triggers library body
  statement_triggers library (for_answer x body) = body_triggers library body
  statement_triggers library (with_object x class key body) = body_triggers library body
  statement_triggers library (subtransaction body otherwise) = body_triggers library body ++ body_triggers library otherwise
  statement_triggers library (let_value x a body) = body_triggers library body
  statement_triggers library abort = []
  statement_triggers library veto = []
  statement_triggers library (veto_with e) = []
  statement_triggers library (on_rule op n) = []
  statement_triggers library (fire n) = n ∷ []

  pub body_triggers : Library → Body → List ℕ
  body_triggers library empty = []
  body_triggers library (s then rest) = statement_triggers library s ++ body_triggers library rest

-- a task of the rule may be a transaction of its own, which has a commit event
abbrev pub may_detach : Rule → Bool
may_detach rule = is_detached rule.event_coupling || is_detached rule.action_coupling

-- the rules that a firing of the rule may trigger
abbrev pub rule_triggers : Library → Rule → List ℕ
rule_triggers library rule =
    body_triggers library rule.action ++ (if may_detach rule then signal_triggers library commit_reached else [])

-- the rules that a unit's own transaction may trigger
abbrev pub unit_triggers : Library → Unit → List ℕ
unit_triggers library (transaction now body) = body_triggers library body ++ signal_triggers library commit_reached
unit_triggers library (moment t) = signal_triggers library (moment_reached t) ++ signal_triggers library commit_reached

-- ---- chains

-- each chain of firings that begins with one of the rule has at most this many
abbrev pub rule_within : Library → (most : ℕ) → Rule → Bool
rule_within library zero rule = false
rule_within library (suc most) rule = list_all (λ n. rule_within library most (rule_at library n)) (rule_triggers library rule)

-- each chain that begins with a firing that the unit's own transaction triggers
abbrev pub unit_within : Library → (most : ℕ) → Unit → Bool
unit_within library most unit = list_all (λ n. rule_within library most (rule_at library n)) (unit_triggers library unit)

-- each chain of the library
abbrev pub library_within : Library → (most : ℕ) → Bool
library_within library most = nat_lt 0 most && list_all (rule_within library most) library.rules

-- no chain has more firings than may nest
abbrev pub is_safe : Library → Bool
is_safe library = library_within library library.depth_limit

-- no chain that a unit of the script begins
abbrev pub script_within : (most : ℕ) → Script → Bool
script_within most script = list_all (unit_within script.library most) script.units

abbrev pub is_safe_script : Script → Bool
is_safe_script script = script_within script.library.depth_limit script

-- ---- the cause that chains bound

-- a cause other than that firings would nest too deep
abbrev pub NotTooDeep : Cause → Type 0
NotTooDeep exists = ⊤
NotTooDeep missing = ⊤
NotTooDeep wrong_kind = ⊤
NotTooDeep overflow = ⊤
NotTooDeep divide_by_zero = ⊤
NotTooDeep no_parameter = ⊤
NotTooDeep depth_exceeded = ⊥
NotTooDeep requested = ⊤
NotTooDeep (vetoed rule) = ⊤

-- ---- the laws

-- where each chain from a unit has at most so many firings, and so many may nest, none nests too deep, whatever the
-- state is, and the number of generations is bounded
abbrev pub ChainsBound : Type 0
ChainsBound = (library : Library) (most : ℕ) → most ≤ library.depth_limit → (unit : Unit) → IsTrue (unit_within library most unit) → (S : State)
    → TransactionsHaveOnly (everywhere NotTooDeep) (transactions_of (run_unit library unit S)) × (length (run_unit library unit S).generations ≤ 2 * most + 1)

-- a bound of the library's chains is one for each unit, and so for each script
abbrev pub BoundsEachUnit : Type 0
BoundsEachUnit = (library : Library) (most : ℕ) → IsTrue (library_within library most) → (unit : Unit) → IsTrue (unit_within library most unit)

abbrev pub BoundsEachScript : Type 0
BoundsEachScript = (library : Library) (most : ℕ) → IsTrue (library_within library most) → (units : List Unit) → IsTrue (script_within most (record { library = library; units = units }))

-- a safe script never meets the depth limit
abbrev pub NeverTooDeep : Type 0
NeverTooDeep = (script : Script) → IsTrue (is_safe_script script) → AllByRecursion (ReportHasOnly (everywhere NotTooDeep)) (evaluate script).units

-- a bound of all chains stays one if it grows
abbrev pub BoundsGrow : Type 0
BoundsGrow = (library : Library) (most : ℕ) (rule : Rule) → IsTrue (rule_within library most rule) → IsTrue (rule_within library (suc most) rule)

-- the library with another depth limit
abbrev pub with_limit : Library → ℕ → Library
with_limit library limit = record { classes = library.classes; rules = library.rules; depth_limit = limit }

-- where each chain is short enough for both limits, the limit makes no difference
abbrev pub LimitIsIdle : Type 0
LimitIsIdle = (library : Library) (most : ℕ) → most ≤ library.depth_limit → (units : List Unit) → IsTrue (script_within most (record { library = library; units = units })) → (limit : ℕ) → most ≤ limit
    → evaluate (record { library = library; units = units }) ≡ evaluate (record { library = with_limit library limit; units = units })

-- ---- rules that never fire

-- each rule that a reached one may trigger is reached
abbrev pub IsClosed : Library → (ℕ → Bool) → Type 0
IsClosed library reached = (n : ℕ) → IsTrue (reached n) → IsTrue (list_all reached (rule_triggers library (rule_at library n)))

abbrev pub IsNodeReached : (ℕ → Bool) → Node → Type 0
IsNodeReached reached sub_node = ⊤
IsNodeReached reached (fire_node rule place condition) = IsTrue (reached rule)
IsNodeReached reached (act_node rule place) = IsTrue (reached rule)

-- all firings in a tree are of reached rules
abbrev pub FiresReached : (ℕ → Bool) → Items → Type 0
FiresReached reached no_items = ⊤
FiresReached reached (operation op rest) = FiresReached reached rest
FiresReached reached (emission v rest) = FiresReached reached rest
FiresReached reached (detachment t rest) = IsTrue (reached t.rule) × FiresReached reached rest
FiresReached reached (node what end inside rest) = (IsNodeReached reached what × FiresReached reached inside) × FiresReached reached rest

abbrev pub IsTaskReached : (ℕ → Bool) → Option Task → Type 0
IsTaskReached reached None = ⊤
IsTaskReached reached (Some t) = IsTrue (reached t.rule)

-- a unit fires no rule outside a closed set that has all that it may trigger itself, whatever the state is
abbrev pub OthersNeverFire : Type 0
OthersNeverFire = (library : Library) (reached : ℕ → Bool) → IsClosed library reached → (unit : Unit) → IsTrue (list_all reached (unit_triggers library unit)) → (S : State)
    → AllByRecursion (λ (t : Transaction). IsTaskReached reached t.task × FiresReached reached t.items) (transactions_of (run_unit library unit S))
