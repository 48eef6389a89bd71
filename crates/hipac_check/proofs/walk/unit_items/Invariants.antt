use Rattle.std.proofs.Common.{◌≡◌, ◌++◌, ◌≤◌, map, drop}
use Rattle.hp_rule.specs.Mapped.{unit}
use Rattle.hipac_check.specs.Spots.{unit_items}
use Rattle.hipac_check.proofs.walk.unit_items.Given as goal

-- the items so far, with those of the rest of the units, are all
abbrev pub invariant-loop-of : goal.invariant-loop-of
invariant-loop-of l = record {
  all : l.items.items ++ unit_items l.indexes l.before (map unit (drop l.of-index l.units)) ≡ unit_items l.indexes 0 (map unit l.units);
  few : l.before ≤ l.of-index;
}
