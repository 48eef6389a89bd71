use Rattle.std.proofs.Common.{◌≡◌}
use Rattle.hp_top.proofs.unit.keep_indexes.Given as goal

abbrev pub invariant-loop-asked : goal.invariant-loop-asked
invariant-loop-asked l = record {
  same : l.store ≡ l.initial.store;
}
