-- Rising keys, with the changes of a layer.
use Rattle.std.specs.Prelude.{◌≡◌, ℤ, List, [], ◌∷◌, ◌++◌, filter, Option, Some, None}
use Rattle.std.specs.declared.cmp.Ordering.TheVariants.{Less}
use Rattle.std.specs.Ordering.{int_cmp, is_lt, is_gt}
use Rattle.hp_model.specs.Cells.{object_cell, rule_cell, detector_cell, CellValue}
use Rattle.hp_store.specs.Changes.{Entries}

-- the keys below a key, and those above it
abbrev pub below : ℤ → List ℤ → List ℤ
below key keys = filter (λ k. is_lt (int_cmp k key)) keys

abbrev pub above : ℤ → List ℤ → List ℤ
above key keys = filter (λ k. is_gt (int_cmp k key)) keys

-- a key in front of others, if it has a value
abbrev pub kept : ℤ → Option CellValue → List ℤ → List ℤ
kept key None keys = keys
kept key (Some value) keys = key ∷ keys

-- keys with the changes of objects
abbrev pub merged : List ℤ → Entries → List ℤ
merged keys [] = keys
merged keys ((object_cell class key, x) ∷ es) = below key keys ++ kept key x (merged (above key keys) es)
merged keys ((rule_cell n, x) ∷ es) = merged keys es
merged keys ((detector_cell n, x) ∷ es) = merged keys es

-- the keys of the objects named are above a key, and rise
abbrev pub AboveKeys : ℤ → Entries → Type 0
AboveKeys k [] = Unit {0}
AboveKeys k ((object_cell class j, x) ∷ es) = (int_cmp k j ≡ Less) × AboveKeys k es
AboveKeys k ((rule_cell n, x) ∷ es) = AboveKeys k es
AboveKeys k ((detector_cell n, x) ∷ es) = AboveKeys k es

abbrev pub KeysRise : Entries → Type 0
KeysRise [] = Unit {0}
KeysRise ((object_cell class k, x) ∷ es) = AboveKeys k es × KeysRise es
KeysRise ((rule_cell n, x) ∷ es) = KeysRise es
KeysRise ((detector_cell n, x) ∷ es) = KeysRise es
