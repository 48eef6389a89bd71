use Rattle.std.proofs.Common.{◌≡◌, drop, map, bytes_eq}
use Rattle.std.specs.Map.{lookup}
use Rattle.hp_query.specs.Mapped.{entry}
use Rattle.hp_model.specs.Kinds.{query_classes}
use Rattle.hp_analysis.proofs.kinds.rows.first_class.Given as goal

-- the class is that of the first one in the rest of the entries
abbrev pub invariant-loop-asked : goal.invariant-loop-asked
invariant-loop-asked l = lookup (bytes_eq l.name) (query_classes (map entry (drop l.asked-index l.entries))) ≡ lookup (bytes_eq l.name) (query_classes (map entry l.entries))
