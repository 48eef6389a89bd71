-- Why a rule of a chain may trigger the next one: by what in the script, and what of the next rule's event that ends.
use Rattle.std.specs.Prelude.{ℕ, suc, pos, ◌==◌, true, IsTrue, [], ◌∷◌, ◌++◌, Option, Some, None, slice_get, ◌≡◌, ◌⊎◌, if◌then◌else◌, codes}
use Rattle.std.specs.List.{list_any}
use Rattle.std.specs.Option.{option_or, option_and_then}
use Rattle.hp_model.specs.Occurrences.{Primitive, created, updated, deleted, signalled, commit_reached}
use Rattle.hp_model.specs.Events.{Pattern, matches, Event, pattern_event, or_event, seq_event, closure_event}
use Rattle.hp_model.specs.Rules.{is_detached, Statement, create, update, delete, signal, when, each, for_answer, with_object, subtransaction, let_value, fire, Body, empty, ◌then◌, Rule, Library}
use Rattle.hp_model.specs.Refusals.{to_member, to_item, Path, under_root, item_at}
use Rattle.hp_model.specs.Chains.{may_detach, rule_triggers}
use Rattle.hp_analysis.specs.Parts.{along, item_of, statement_at}

-- both paths begin at the script's root
pub record Link : Type 0 where
  -- of a statement in the rule's action; or of the rule's mode, if a transaction of its own commits
  pub by : Path
  -- of a pattern of the next rule's event; or of that rule, if the statement fires it
  pub event : Path

abbrev pub rule_path : ℕ → Path
rule_path n = item_at (under_root (codes "rules")) n

-- ---- events

-- the first pattern of an event at a path that this primitive occurrence matches as the last part
abbrev pub event_path : Path → Event → Primitive → Option Path
event_path path (pattern_event pattern) p = if matches pattern p then Some path else None
event_path path (or_event a b) p = option_or (event_path (item_at path 1) a p) (event_path (item_at path 2) b p)
event_path path (seq_event a b) p = event_path (item_at path 2) b p
event_path path (closure_event a t) p = event_path (item_at path 2) t p

abbrev pub linked : Path → Option Path → Option Link
linked by None = None
linked by (Some event) = Some (record { by = by; event = event })

-- what the m-th rule waits for is signalled at a path
abbrev pub by_signal : (m : ℕ) → Event → Path → Primitive → Option Link
by_signal m event path p = linked path (event_path (item_at (rule_path m) 1) event p)

-- ---- statements

-- the first statement, of one at a path and those in it, that may trigger the m-th rule
abbrev mutual
  pub statement_link : (m : ℕ) → Event → Path → Statement → Option Link
  statement_link m event path (create class key assignments) = by_signal m event path (created class (pos 0) [])
  statement_link m event path (update class key assignments) = by_signal m event path (updated class (pos 0) [] [])
  statement_link m event path (delete class key) = by_signal m event path (deleted class (pos 0) [])
  statement_link m event path (signal name arguments) = by_signal m event path (signalled name [])
  statement_link m event path (when e then_body else_body) =
      option_or (body_link m event (item_at path 2) 0 then_body) (body_link m event (item_at path 3) 0 else_body)
  statement_link m event path (each x class predicate body) = body_link m event (item_at path 4) 0 body
  statement_link m event path (for_answer x body) = body_link m event (item_at path 2) 0 body
  statement_link m event path (with_object x class key body) = body_link m event (item_at path 4) 0 body
  statement_link m event path (subtransaction body otherwise) =
      option_or (body_link m event (item_at path 1) 0 body) (body_link m event (item_at path 2) 0 otherwise)
  statement_link m event path (let_value x a body) = body_link m event (item_at path 3) 0 body
  statement_link m event path (fire n) = if n == m then Some (record { by = path; event = rule_path m }) else None
  statement_link m event path s = None

  -- the statements of a body from an index on
  pub body_link : (m : ℕ) → Event → Path → ℕ → Body → Option Link
  body_link m event path i empty = None
  body_link m event path i (s then rest) = option_or (statement_link m event (item_at path i) s) (body_link m event path (suc i) rest)

-- ---- rules

-- the mode by which a task of the n-th rule is a transaction of its own
abbrev pub mode_path : (n : ℕ) → Rule → Path
mode_path n rule = item_at (rule_path n) (if is_detached rule.event_coupling then 2 else 4)

abbrev pub commit_link : (n : ℕ) → Rule → (m : ℕ) → Event → Option Link
commit_link n rule m event = if may_detach rule then by_signal m event (mode_path n rule) commit_reached else None

abbrev pub link_between : (n : ℕ) → Rule → (m : ℕ) → Event → Option Link
link_between n rule m event = option_or (body_link m event (item_at (rule_path n) 5) 0 rule.action) (commit_link n rule m event)

-- to the m-th rule, if there is one
abbrev pub link_onward : (n : ℕ) → Rule → (m : ℕ) → Option Rule → Option Link
link_onward n rule m None = None
link_onward n rule m (Some next) = link_between n rule m next.event

-- why a firing of the n-th rule may trigger the m-th
abbrev pub rule_link : Library → (n m : ℕ) → Option Link
rule_link library n m = option_and_then (λ rule. link_onward n rule m (slice_get library.rules m)) (slice_get library.rules n)

-- ---- what stands at the paths of a link

-- the statement at these steps below a statement or a body
abbrev mutual
  pub statement_below : Path → Statement → Option Statement
  statement_below [] s = Some s
  statement_below (to_member x ∷ steps) s = None
  statement_below (to_item i ∷ steps) (when e a b) = item_of (None ∷ None ∷ body_below steps a ∷ body_below steps b ∷ []) i
  statement_below (to_item i ∷ steps) (each x class predicate body) = item_of (None ∷ None ∷ None ∷ None ∷ body_below steps body ∷ []) i
  statement_below (to_item i ∷ steps) (for_answer x body) = item_of (None ∷ None ∷ body_below steps body ∷ []) i
  statement_below (to_item i ∷ steps) (with_object x class key body) = item_of (None ∷ None ∷ None ∷ None ∷ body_below steps body ∷ []) i
  statement_below (to_item i ∷ steps) (subtransaction a b) = item_of (None ∷ body_below steps a ∷ body_below steps b ∷ []) i
  statement_below (to_item i ∷ steps) (let_value x a body) = item_of (None ∷ None ∷ None ∷ body_below steps body ∷ []) i
  statement_below (to_item i ∷ steps) s = None

  pub body_below : Path → Body → Option Statement
  body_below [] body = None
  body_below (to_member x ∷ steps) body = None
  body_below (to_item i ∷ steps) body = along (statement_at i body) (λ s. statement_below steps s)

-- the pattern at these steps below an event
abbrev pub pattern_below : Path → Event → Option Pattern
pattern_below [] (pattern_event pattern) = Some pattern
pattern_below (to_item i ∷ steps) (or_event a b) = item_of (None ∷ pattern_below steps a ∷ pattern_below steps b ∷ []) i
pattern_below (to_item i ∷ steps) (seq_event a b) = item_of (None ∷ None ∷ pattern_below steps b ∷ []) i
pattern_below (to_item i ∷ steps) (closure_event a t) = item_of (None ∷ None ∷ pattern_below steps t ∷ []) i
pattern_below steps event = None

-- a pattern of the m-th rule's event stands at the path, is one that may end an occurrence, and this one matches it
abbrev pub EndsAt : (m : ℕ) → Event → Primitive → Path → Type 0
EndsAt m event p path = (steps : Path) × (pattern : Pattern) × (path ≡ item_at (rule_path m) 1 ++ steps) × (pattern_below steps event ≡ Some pattern) × (matches pattern p ≡ true)

-- what the statement signals does, or it fires the rule
abbrev pub TriggersAt : (m : ℕ) → Event → Statement → Path → Type 0
TriggersAt m event (create class key assignments) path = EndsAt m event (created class (pos 0) []) path
TriggersAt m event (update class key assignments) path = EndsAt m event (updated class (pos 0) [] []) path
TriggersAt m event (delete class key) path = EndsAt m event (deleted class (pos 0) []) path
TriggersAt m event (signal name arguments) path = EndsAt m event (signalled name []) path
TriggersAt m event (fire n) path = ((n == m) ≡ true) × (path ≡ rule_path m)
TriggersAt m event s path = ⊥

-- a statement of the action, or a commit
abbrev pub IsLink : (n : ℕ) → Rule → (m : ℕ) → Event → Link → Type 0
IsLink n rule m event l =
    ((steps : Path) × (s : Statement) × (l.by ≡ item_at (rule_path n) 5 ++ steps) × (body_below steps rule.action ≡ Some s) × TriggersAt m event s l.event)
    ⊎ ((l.by ≡ mode_path n rule) × (may_detach rule ≡ true) × EndsAt m event commit_reached l.event)

-- wherever a firing of a rule may trigger another one there is a link, and it stands there
abbrev pub LinksStand : Type 0
LinksStand = (library : Library) (n m : ℕ) (rule next : Rule) → slice_get library.rules n ≡ Some rule → slice_get library.rules m ≡ Some next
    → IsTrue (list_any (λ t. t == m) (rule_triggers library rule))
    → (l : Link) × (rule_link library n m ≡ Some l) × IsLink n rule m next.event l
