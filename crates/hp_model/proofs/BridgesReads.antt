-- What a step reads of a state, in terms of the state's cells.
use Rattle.std.proofs.Common.{◌≡◌, refl, ap, ap₂, sym, ◌∙◌, ℕ, ℤ, Bool, true, false, cond, Option, Some, None, unwrap_or}
use Rattle.std.specs.Prelude.{option_map, []}
use Rattle.std.proofs.lemmas.Bool.{and_parts}
use Rattle.hp_model.specs.Values.{Row}
use Rattle.hp_model.specs.Occurrences.{History}
use Rattle.hp_model.specs.Events.{Event, pattern_event, or_event, seq_event, closure_event, is_pure}
use Rattle.hp_model.specs.Knowledge.{Knowledge, of_either, knowledge}
use Rattle.hp_model.specs.Rules.{Rule, Library, rule_at}
use Rattle.hp_model.specs.State.{State, Status, absent, enabled, disabled, RuleState, rule_state, find_object}
use Rattle.hp_model.specs.Cells.{object_cell, rule_cell, detector_cell, CellValue, row_value, status_value, knowledge_value, cells, status_in, knowledge_in}

-- the row in an object's cell, the status in a rule's, what is known in a detector's
abbrev pub row_at : Option CellValue → Option Row
row_at (Some (row_value row)) = Some row
row_at value = None

abbrev pub status_at : Option CellValue → Status
status_at (Some (status_value status)) = status
status_at value = absent

abbrev pub knowledge_at : Option CellValue → Option Knowledge
knowledge_at (Some (knowledge_value k)) = Some k
knowledge_at value = None

-- what is known of an enabled rule's past, from its event and its detector's cell, which is empty for an event that
-- doesn't look back
abbrev pub known_by : Event → Option CellValue → Knowledge
known_by event value = unwrap_or (knowledge_at value) (knowledge event [])

-- ---- objects

row_back : (o : Option Row) → o ≡ row_at (option_map row_value o)
row_back None = refl
row_back (Some row) = refl

-- an object, by its cell
pub find_object-cells : (library : Library) (S : State) (class : ℕ) (key : ℤ) → find_object S.objects class key ≡ row_at (cells library S (object_cell class key))
find_object-cells library S class key = row_back (find_object S.objects class key)

-- ---- rules

status_back : (s : Status) → s ≡ status_at (status_in s)
status_back absent = refl
status_back enabled = refl
status_back disabled = refl

-- a rule's status, by the rule's cell
pub status-cells : (library : Library) (S : State) (n : ℕ) → (rule_state S n).status ≡ status_at (cells library S (rule_cell n))
status-cells library S n = status_back (rule_state S n).status

-- ---- detectors

-- for a pure event nothing is known beyond the event itself
pub knowledge-pure : (event : Event) (h : History) → is_pure event ≡ true → knowledge event h ≡ knowledge event []
knowledge-pure (pattern_event pattern) h pure = refl
knowledge-pure (or_event a b) h pure =
    let both = and_parts (is_pure a) (is_pure b) pure in
    ap₂ of_either (knowledge-pure a h both.0) (knowledge-pure b h both.1)
knowledge-pure (seq_event a b) h pure = cc
knowledge-pure (closure_event a t) h pure = cc

in_detector : (rule : Rule) (s : Status) (r : RuleState) → s ≡ enabled → is_pure rule.event ≡ false → knowledge_in rule s r ≡ Some (knowledge_value (knowledge rule.event r.past))
in_detector rule absent r is pure = cc
in_detector rule enabled r is pure = ap (λ b. cond b None (Some (knowledge_value (knowledge rule.event r.past)))) pure
in_detector rule disabled r is pure = cc

-- an event that doesn't look back needs no detector
pub knowledge_in-pure : (rule : Rule) (s : Status) (r : RuleState) → is_pure rule.event ≡ true → knowledge_in rule s r ≡ None
knowledge_in-pure rule absent r pure = refl
knowledge_in-pure rule enabled r pure = ap (λ b. cond b None (Some (knowledge_value (knowledge rule.event r.past)))) pure
knowledge_in-pure rule disabled r pure = refl

idle_detector : (rule : Rule) (s : Status) (r : RuleState) → (s ≡ enabled → ⊥) → knowledge_in rule s r ≡ None
idle_detector rule absent r idle = refl
idle_detector rule enabled r idle = absurd (idle refl)
idle_detector rule disabled r idle = refl

-- an enabled rule whose event looks back
pub detector-cells : (library : Library) (S : State) (n : ℕ) → (rule_state S n).status ≡ enabled → is_pure (rule_at library n).event ≡ false
    → cells library S (detector_cell n) ≡ Some (knowledge_value (knowledge (rule_at library n).event (rule_state S n).past))
detector-cells library S n is pure = in_detector (rule_at library n) (rule_state S n).status (rule_state S n) is pure

-- no other rule has a detector's cell
pub detector-cells-pure : (library : Library) (S : State) (n : ℕ) → is_pure (rule_at library n).event ≡ true → cells library S (detector_cell n) ≡ None
detector-cells-pure library S n pure = knowledge_in-pure (rule_at library n) (rule_state S n).status (rule_state S n) pure

pub detector-cells-idle : (library : Library) (S : State) (n : ℕ) → ((rule_state S n).status ≡ enabled → ⊥) → cells library S (detector_cell n) ≡ None
detector-cells-idle library S n idle = idle_detector (rule_at library n) (rule_state S n).status (rule_state S n) idle

-- what is known of an enabled rule's past
pub known-cells : (library : Library) (S : State) (n : ℕ) → (rule_state S n).status ≡ enabled
    → known_by (rule_at library n).event (cells library S (detector_cell n)) ≡ knowledge (rule_at library n).event (rule_state S n).past
known-cells library S n is = by (is_pure event) refl
  where
    event : Event
    event = (rule_at library n).event

    by : (b : Bool) → is_pure event ≡ b → known_by event (cells library S (detector_cell n)) ≡ knowledge event (rule_state S n).past
    by true pure = ap (known_by event) (detector-cells-pure library S n pure) ∙ sym (knowledge-pure event (rule_state S n).past pure)
    by false pure = ap (known_by event) (detector-cells library S n is pure)
