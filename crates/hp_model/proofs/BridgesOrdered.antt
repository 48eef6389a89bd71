-- Each write keeps a state in order.
use Rattle.std.proofs.Common.{◌∙◌, ℕ, ℤ}
use Rattle.std.proofs.lemmas.List.{length-set, length-map}
use Rattle.hp_model.specs.Values.{Row}
use Rattle.hp_model.specs.Occurrences.{Primitive}
use Rattle.hp_model.specs.Rules.{Library}
use Rattle.hp_model.specs.State.{write_object, remove_object, State, RuleState, with_objects, with_rule, extended_rule, extended, IsOrdered}
use Rattle.hp_model.specs.Tree.{create_op, delete_op}
use Rattle.hp_model.proofs.Ordered.{apply_ordered}

-- an object written, and one removed
pub write_ordered : (library : Library) (S : State) (class : ℕ) (key : ℤ) (row : Row) → IsOrdered library S → IsOrdered library (with_objects S (write_object S.objects class key row))
write_ordered library S class key row ordered = record { objects_rise = apply_ordered (create_op class key row) S.objects ordered.objects_rise; each_rule = ordered.each_rule }

pub remove_ordered : (library : Library) (S : State) (class : ℕ) (key : ℤ) → IsOrdered library S → IsOrdered library (with_objects S (remove_object S.objects class key))
remove_ordered library S class key ordered = record { objects_rise = apply_ordered (delete_op class key) S.objects ordered.objects_rise; each_rule = ordered.each_rule }

-- a rule's state written
pub rule_ordered : (library : Library) (S : State) (n : ℕ) (r : RuleState) → IsOrdered library S → IsOrdered library (with_rule S n r)
rule_ordered library S n r ordered = record { objects_rise = ordered.objects_rise; each_rule = length-set S.rules n r ∙ ordered.each_rule }

-- a signal
pub extended_ordered : (library : Library) (p : Primitive) (S : State) → IsOrdered library S → IsOrdered library (extended p S)
extended_ordered library p S ordered = record { objects_rise = ordered.objects_rise; each_rule = length-map S.rules (extended_rule p) ∙ ordered.each_rule }
