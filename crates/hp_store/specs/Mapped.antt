-- What the crate's types stand for in the model: a function for each.
use Rattle.std.specs.Prelude.{Option, option_map}
use Rattle.hp_model.specs.State as S
use Rattle.hp_model.specs.Cells as C
use Rattle.hp_value.specs.declared.cell.Cell.{Cell}
use Rattle.hp_value.specs.Mapped.{cell}
use Rattle.hp_store.specs.declared.value.Status.{Status}
use Rattle.hp_store.specs.declared.value.Status.TheVariants.{Enabled, Disabled}
use Rattle.hp_store.specs.declared.value.CellValue.{CellValue}
use Rattle.hp_store.specs.declared.value.CellValue.TheVariants.{Row, Status as RuleStatus, Detector}

abbrev pub status : Status → S.Status
status Enabled = S.enabled
status Disabled = S.disabled

abbrev pub cell_value : CellValue → C.CellValue
cell_value (Row r) = C.row_value r
cell_value (RuleStatus s) = C.status_value (status s)
cell_value (Detector k) = C.knowledge_value k

-- a cell's new value, or none where it is emptied
abbrev pub change : Option CellValue → Option C.CellValue
change = option_map cell_value

abbrev pub entry : Cell × Option CellValue → C.Cell × Option C.CellValue
entry e = (cell e.0, change e.1)
