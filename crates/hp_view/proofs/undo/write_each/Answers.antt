use Rattle.std.proofs.Common.{map, rules}
use Rattle.hp_value.specs.Mapped.{cell}
use Rattle.hp_store.specs.Mapped.{change}
use Rattle.hp_store.specs.Changes.{changes}
use Rattle.hp_view.specs.Mapped.{replaced}
use Rattle.hp_view.proofs.Undoing.{back_more}
use Rattle.hp_view.proofs.undo.write_each.Goals as goal

pub loop-cell-preserved : goal.loop-cell-preserved
loop-cell-preserved c = record {
  once = search rules;
  so_far = search rules;
  back = back_more (map replaced c.write_in.new.undo.items) (changes c.write_in.new.writes) (cell c.in-Some.cell.now) (change c.in_ok-clone.field-0) c.loop-cell.invariant.back
      c.in_ok-write_in.ensures.changes c.in_ok-write_in.ensures.undo;
}
