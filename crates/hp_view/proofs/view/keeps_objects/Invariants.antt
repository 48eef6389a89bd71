use Rattle.std.proofs.Common.{ℤ, map}
use Rattle.hp_store.specs.Mapped.{entry}
use Rattle.hp_store.specs.Stack.{cells_in}
use Rattle.hp_view.specs.Keeping.{KeepsObject}
use Rattle.hp_view.proofs.view.keeps_objects.Given as goal

-- the layer does, if the entries that are left do
abbrev pub invariant-loop-cell : goal.invariant-loop-cell
invariant-loop-cell l = (key : ℤ) → KeepsObject (cells_in l.base) (map entry l.cell-iterator) l.class key → KeepsObject (cells_in l.base) l.layer l.class key
