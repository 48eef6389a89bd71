use Rattle.std.proofs.Common.{◌≡◌, [], drop, map, bytes_eq}
use Rattle.std.specs.Map.{lookup}
use Rattle.hp_query.specs.Mapped.{entry}
use Rattle.hp_analysis.specs.Scopes.{rows_after}
use Rattle.hp_analysis.proofs.LastNames.{last_from}
use Rattle.hp_analysis.proofs.kinds.rows.last_class.Given as goal

-- the rest of the entries hides what was found
abbrev pub invariant-loop-asked : goal.invariant-loop-asked
invariant-loop-asked l = last_from l.class l.name (map entry (drop l.asked-index l.entries)) ≡ lookup (bytes_eq l.name) (rows_after [] (map entry l.entries))
