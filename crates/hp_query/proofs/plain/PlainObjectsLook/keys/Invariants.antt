use Rattle.std.proofs.Common.{◌≡◌, ◌++◌, map}
use Rattle.hp_model.specs.State.{class_keys}
use Rattle.hp_value.specs.declared.row.Row.{Row}
use Rattle.hp_query.specs.declared.plain.ObjectName.{ObjectName}
use Rattle.hp_query.proofs.plain.PlainObjectsLook.keys.Given as goal

-- the keys so far, and those that are still to come
abbrev pub invariant-loop-name : goal.invariant-loop-name
invariant-loop-name l = l.keys.items ++ map (λ (e : ObjectName × Row). e.0.key) l.name-iterator ≡ class_keys l.class l.fn.self
