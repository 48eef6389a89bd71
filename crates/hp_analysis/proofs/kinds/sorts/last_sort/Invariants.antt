use Rattle.std.proofs.Common.{◌≡◌, [], drop, map, bytes_eq}
use Rattle.std.specs.Prelude.{option_map}
use Rattle.std.specs.Map.{lookup}
use Rattle.hp_analysis.specs.Kinded.{sort}
use Rattle.hp_analysis.specs.Scopes.{named_sort, sorts_after}
use Rattle.hp_analysis.proofs.LastNames.{last_sort_from}
use Rattle.hp_analysis.proofs.kinds.sorts.last_sort.Given as goal

-- the rest of the values hides what was found
abbrev pub invariant-loop-named : goal.invariant-loop-named
invariant-loop-named l = last_sort_from (option_map sort l.last) l.name (map named_sort (drop l.named-index l.found)) ≡ lookup (bytes_eq l.name) (sorts_after [] (map named_sort l.found))
