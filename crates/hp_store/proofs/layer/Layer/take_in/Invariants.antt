use Rattle.std.proofs.Common.{◌≡◌, map, None}
use Rattle.std.specs.Option.{option_or}
use Rattle.hp_model.specs.Cells.{Cell}
use Rattle.hp_store.specs.Changes.{changes, IsEachOnce}
use Rattle.hp_store.specs.Mapped.{entry}
use Rattle.hp_store.proofs.layer.Layer.take_in.Given as goal

abbrev pub invariant-loop-cell : goal.invariant-loop-cell
invariant-loop-cell l = record {
  once : IsEachOnce (map entry l.cell-iterator);
  so_far : (q : Cell) → option_or (changes (map entry l.cell-iterator) q) (changes l.self q) ≡ option_or (changes l.upper q) (changes l.initial.self q);
  unnamed : (q : Cell) → changes l.upper q ≡ None → changes (map entry l.cell-iterator) q ≡ None;
  others : (q : Cell) → changes l.upper q ≡ None → changes l.self q ≡ changes l.initial.self q;
}
