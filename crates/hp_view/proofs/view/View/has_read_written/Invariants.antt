use Rattle.std.proofs.Common.{◌≡◌, map}
use Rattle.hp_store.specs.Changes.{class_entries}
use Rattle.hp_store.specs.Mapped.{entry}
use Rattle.hp_view.specs.Counts.{all_read}
use Rattle.hp_view.proofs.view.View.has_read_written.Given as goal

abbrev pub invariant-loop-cell : goal.invariant-loop-cell
invariant-loop-cell l = all_read l.self.reads (map entry l.cell-iterator) ≡ all_read l.self.reads (class_entries l.class l.self.writes)
