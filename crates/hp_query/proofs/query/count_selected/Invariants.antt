use Rattle.std.proofs.Common.{◌≤◌, drop, map}
use Rattle.hp_value.specs.Mapped.{keyed_row, environment, expression}
use Rattle.hp_query.proofs.SelectLemmas.{Counts}
use Rattle.hp_query.proofs.query.count_selected.Given as goal

-- so many of the objects before those that are left are selected
abbrev pub invariant-loop-object : goal.invariant-loop-object
invariant-loop-object l = record {
  within : l.count ≤ l.object-index;
  counts : Counts (environment l.asked.env.now) l.asked.name.now (expression l.asked.predicate.now) (map keyed_row l.objects) (map keyed_row (drop l.object-index l.objects)) l.count;
}
