-- Layers that leave a class's objects where they are.
use Rattle.std.specs.Prelude.{◌≡◌, ℕ, ℤ, is_some}
use Rattle.hp_model.specs.Cells.{Cells, object_cell, over}
use Rattle.hp_store.specs.Changes.{Entries, changes}

-- an object is there after a layer's changes exactly if it was before
abbrev pub KeepsObject : Cells → Entries → ℕ → ℤ → Type 0
KeepsObject base layer class key = is_some (over base (changes layer) (object_cell class key)) ≡ is_some (base (object_cell class key))
