use Rattle.std.proofs.Common.{◌≡◌}
use Rattle.hp_store.proofs.Indexed.{Enters}
use Rattle.hp_store.proofs.index.Index.enter_all.Given as goal

abbrev pub invariant-loop-key : goal.invariant-loop-key
invariant-loop-key l = record {
  same : l.self.class ≡ l.initial.self.class;
  so_far : Enters l.self l.table.entries l.key-iterator;
}
