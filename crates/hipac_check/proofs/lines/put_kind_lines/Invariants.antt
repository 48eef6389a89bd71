use Rattle.std.proofs.Common.{◌≡◌, ◌++◌, string_bytes, drop}
use Rattle.hp_analysis.specs.FoundKinds.{kind_findings}
use Rattle.hp_analysis.specs.Checking.{kind_lines}
use Rattle.hipac_check.specs.Spots.{shown}
use Rattle.hipac_check.proofs.lines.put_kind_lines.Given as goal

-- what was written and what is still to write is all
abbrev pub invariant-loop-found : goal.invariant-loop-found
invariant-loop-found l =
    string_bytes l.out ++ kind_lines (shown l.spots) (kind_findings (drop l.found-index l.all)) ≡ string_bytes l.fn.out ++ kind_lines (shown l.spots) (kind_findings l.all)
