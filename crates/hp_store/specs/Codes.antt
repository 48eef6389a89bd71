-- How cells and what they hold are stored: a code of each.
use Rattle.std.specs.Coded.{Coded, coded_list, coded_option, coded×, codes}
use Rattle.hp_model.specs.Cells.{Cell, CellValue}
use Rattle.hp_detect.specs.Codes.{knowledge_code}
use Rattle.hp_store.specs.Changes.{Entries}

pub cell_code : Coded Cell
cell_code = hlevel codes

pub value_code : Coded CellValue
value_code = hlevel (codes, knowledge_code)

abbrev pub entries_code : Coded Entries
entries_code = coded_list (coded× cell_code (coded_option value_code))
