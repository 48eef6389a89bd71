-- Operations on objects and rules: the part of a statement before its event is signalled.
use Rattle.std.specs.Prelude.{ℕ, ℤ, List, Option, Some, None, Ok, Err, ⊤}
use Rattle.hp_model.specs.Values.{Row, exists, missing, Outcome}
use Rattle.hp_model.specs.Occurrences.{Primitive, created, updated, deleted, signalled, commit_reached, moment_reached}
use Rattle.hp_model.specs.Rules.{RuleOperation, install, enable, disable, remove, Library}
use Rattle.hp_model.specs.State.{State, Status, absent, enabled, disabled, RuleState, rule_state, find_object, write_object, remove_object, with_objects, with_rule}
use Rattle.hp_model.specs.Tree.{create_op, update_op, delete_op, Items, no_items, operation}
use Rattle.hp_model.specs.Firing.{changed_row, operated_rule}
use Rattle.hp_model.specs.Cells.{Changes, Read}
use Rattle.hp_model.specs.Soundness.{Faithful}

-- the result of an operation, or the cause of its failure, and the state after it
pub record Operated (A : Type 0) : Type 0 where
  pub outcome : Outcome A
  pub state : State

abbrev pub FaithfulOperation : {A : Type 0} → Library → (State → Operated A) → List Read → Changes → Changes → Outcome A → Type 0
FaithfulOperation library run reads before after outcome = Faithful library (λ S. (run S).outcome) (λ S. (run S).state) reads before after outcome

-- ---- objects: the result is the occurrence to signal

abbrev pub create_where : Option Row → ℕ → ℤ → Row → State → Operated Primitive
create_where (Some old) class key new S = record { outcome = Err exists; state = S }
create_where None class key new S = record { outcome = Ok (created class key new); state = with_objects S (write_object S.objects class key new) }

abbrev pub create_object : ℕ → ℤ → Row → State → Operated Primitive
create_object class key new S = create_where (find_object S.objects class key) class key new S

abbrev pub update_where : Option Row → ℕ → ℤ → Row → State → Operated Primitive
update_where None class key given S = record { outcome = Err missing; state = S }
update_where (Some old) class key given S =
    record { outcome = Ok (updated class key old (changed_row given old)); state = with_objects S (write_object S.objects class key (changed_row given old)) }

-- the given values replace the object's
abbrev pub update_object : ℕ → ℤ → (given : Row) → State → Operated Primitive
update_object class key given S = update_where (find_object S.objects class key) class key given S

abbrev pub delete_where : Option Row → ℕ → ℤ → State → Operated Primitive
delete_where None class key S = record { outcome = Err missing; state = S }
delete_where (Some old) class key S = record { outcome = Ok (deleted class key old); state = with_objects S (remove_object S.objects class key) }

abbrev pub delete_object : ℕ → ℤ → State → Operated Primitive
delete_object class key S = delete_where (find_object S.objects class key) class key S

-- the operation's item in the tree, from its occurrence
abbrev pub operation_items : Primitive → Items
operation_items (created class key new) = operation (create_op class key new) no_items
operation_items (updated class key old new) = operation (update_op class key new) no_items
operation_items (deleted class key old) = operation (delete_op class key) no_items
operation_items (signalled name arguments) = no_items
operation_items commit_reached = no_items
operation_items (moment_reached t) = no_items

-- ---- rules

-- the new status of a rule after an operation, if it changes
abbrev pub new_status : RuleOperation → Status → Outcome (Option Status)
new_status install absent = Ok (Some enabled)
new_status install status = Ok None
new_status enable absent = Err missing
new_status enable enabled = Ok None
new_status enable disabled = Ok (Some enabled)
new_status disable absent = Err missing
new_status disable enabled = Ok (Some disabled)
new_status disable disabled = Ok None
new_status remove absent = Ok None
new_status remove status = Ok (Some absent)

abbrev pub set_where : Outcome RuleState → ℕ → State → Operated ⊤
set_where (Err c) n S = record { outcome = Err c; state = S }
set_where (Ok r) n S = record { outcome = Ok tt; state = with_rule S n r }

abbrev pub set_rule : RuleOperation → ℕ → State → Operated ⊤
set_rule op n S = set_where (operated_rule op (rule_state S n)) n S
