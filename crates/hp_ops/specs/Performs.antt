-- What an operation on a view promises.
use Rattle.std.specs.Prelude.{⊤, ℕ, [], Result, Ok, Err, Option, Some, None, if◌then◌else◌}
use Rattle.hp_model.specs.Events.{Event, is_pure}
use Rattle.hp_model.specs.Knowledge.{knowledge}
use Rattle.hp_model.specs.Cells.{rule_cell, detector_cell, CellValue, knowledge_value, status_in, Changes, no_changes, with_change}
use Rattle.hp_model.specs.Rules.{Rule, Library}
use Rattle.hp_model.specs.State as S
use Rattle.hp_model.specs.Operations.{Operated, FaithfulOperation}
use Rattle.hp_model.specs.Values.{Outcome}
use Rattle.hp_value.specs.declared.halt.Cause.{Cause}
use Rattle.hp_value.specs.declared.halt.Halt.{Halt}
use Rattle.hp_value.specs.declared.halt.Halt.TheVariants.{Cause as ByCause, Memory}
use Rattle.hp_value.specs.Mapped.{cause}
use Rattle.hp_store.specs.declared.value.Status.{Status}
use Rattle.hp_store.specs.Mapped.{status}
use Rattle.hp_view.specs.Seeing.{Seeing, written}

-- the result, with its value mapped by f, is the operation's, faithfully, unless memory ran out
abbrev pub Performs : {X A : Type 0} → (X → A) → Library → (S.State → Operated A) → Seeing → Seeing → Result X Halt → Type 0
Performs f library run old new (Ok x) = FaithfulOperation library run new.reads (written old) (written new) (Ok (f x))
Performs f library run old new (Err (ByCause c)) = FaithfulOperation library run new.reads (written old) (written new) (Err (cause c))
Performs f library run old new (Err Memory) = ⊤

-- a rule's status, of which an absent rule has none
abbrev pub status_of : Option Status → S.Status
status_of None = S.absent
status_of (Some s) = status s

-- a change of status in the model
abbrev pub new_status : Result (Option (Option Status)) Cause → Outcome (Option S.Status)
new_status (Ok None) = Ok None
new_status (Ok (Some s)) = Ok (Some (status_of s))
new_status (Err c) = Err (cause c)

-- the value of a detector's cell after a change of its rule's status, if the event looks back
abbrev pub new_knowledge : Event → S.Status → Option CellValue
new_knowledge event S.enabled = Some (knowledge_value (knowledge event []))
new_knowledge event s = None

-- the changes of a rule's cells for a new status
abbrev pub new_rule_cell : ℕ → S.Status → Changes
new_rule_cell n s = with_change no_changes (rule_cell n) (Some (status_in s))

abbrev pub rule_changes : Rule → ℕ → S.Status → Changes
rule_changes rule n s = if is_pure rule.event then new_rule_cell n s else with_change (new_rule_cell n s) (detector_cell n) (Some (new_knowledge rule.event s))
