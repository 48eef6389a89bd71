use Rattle.std.proofs.Common.{◌≡◌, ◌≤◌, length, drop, take, map, vec_len}
use Rattle.hp_store.specs.Changes.{changes}
use Rattle.hp_view.specs.Mapped.{replaced}
use Rattle.hp_view.specs.Seeing.{undone, AreCovered}
use Rattle.hp_view.proofs.undo.unwind.Given as goal

abbrev pub invariant-loop-undo : goal.invariant-loop-undo
invariant-loop-undo l = record {
  within : l.at ≤ length l.undo.items;
  covered : AreCovered (map replaced l.undo.items) (changes l.writes);
  changes : undone (drop l.at (map replaced l.undo.items)) (changes l.writes) ≡ undone (drop l.at (map replaced l.initial.undo.items)) (changes l.initial.writes);
  undo : take l.at (map replaced l.undo.items) ≡ take l.at (map replaced l.initial.undo.items);
}

abbrev pub decreases-loop-undo : goal.decreases-loop-undo
decreases-loop-undo l = vec_len l.undo
