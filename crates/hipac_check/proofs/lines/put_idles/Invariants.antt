use Rattle.std.proofs.Common.{◌≡◌, ◌++◌, string_bytes, map, drop}
use Rattle.hp_rule.specs.Statements.{rule}
use Rattle.hp_analysis.specs.Checking.{idle_lines}
use Rattle.hipac_check.specs.Spots.{shown}
use Rattle.hipac_check.proofs.lines.put_idles.Given as goal

-- what was written and what is still to write is all
abbrev pub invariant-loop-n : goal.invariant-loop-n
invariant-loop-n l =
    string_bytes l.out ++ idle_lines (shown l.spots) l.present l.reached l.n (map rule (drop l.n l.rules))
    ≡ string_bytes l.fn.out ++ idle_lines (shown l.spots) l.present l.reached 0 (map rule l.rules)
