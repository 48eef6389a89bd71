-- What a base is to a contract.
use Rattle.std.specs.Prelude.{ℕ, zero, suc, ℤ, List, [], ◌∷◌, map, option_map}
use Rattle.std.specs.Ordering.{nat_cmp, int_cmp}
use Rattle.std.specs.BTreeMap.{BTreeMap, is_at}
use Rattle.std.specs.Map.{lookup}
use Rattle.hp_model.specs.Cells.{object_cell, rule_cell, detector_cell, Cells}
use Rattle.hp_store.specs.declared.value.CellValue.{CellValue}
use Rattle.hp_store.specs.declared.base.Base.{Base}
use Rattle.hp_store.specs.Mapped.{cell_value}

-- the entries of the table at a place; past the last there are none
abbrev pub table_at : List (BTreeMap ℤ CellValue) → ℕ → List (ℤ × CellValue)
table_at [] i = []
table_at (t ∷ ts) zero = t.entries
table_at (t ∷ ts) (suc i) = table_at ts i

abbrev pub base_cells : Base → Cells
base_cells b (object_cell class key) = option_map cell_value (lookup (is_at (int_cmp key)) (table_at b.classes.items class))
base_cells b (rule_cell n) = option_map cell_value (lookup (is_at (nat_cmp n)) b.statuses.entries)
base_cells b (detector_cell n) = option_map cell_value (lookup (is_at (nat_cmp n)) b.detectors.entries)

-- the same of the entries alone

pub record Tables : Type 0 where
  pub statuses : List (ℕ × CellValue)
  pub detectors : List (ℕ × CellValue)
  pub classes : List (List (ℤ × CellValue))

abbrev pub tables : Base → Tables
tables b = record { statuses = b.statuses.entries; detectors = b.detectors.entries; classes = map (λ t. t.entries) b.classes.items }

abbrev pub entries_at : List (List (ℤ × CellValue)) → ℕ → List (ℤ × CellValue)
entries_at [] i = []
entries_at (t ∷ ts) zero = t
entries_at (t ∷ ts) (suc i) = entries_at ts i

abbrev pub cells_at : Tables → Cells
cells_at b (object_cell class key) = option_map cell_value (lookup (is_at (int_cmp key)) (entries_at b.classes class))
cells_at b (rule_cell n) = option_map cell_value (lookup (is_at (nat_cmp n)) b.statuses)
cells_at b (detector_cell n) = option_map cell_value (lookup (is_at (nat_cmp n)) b.detectors)
