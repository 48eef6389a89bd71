-- Whether cells that a layer names were read by themselves.
use Rattle.std.specs.Prelude.{Bool, List, Option}
use Rattle.std.specs.List.{list_any, list_all}
use Rattle.hp_model.specs.Cells.{Cell, CellValue, Read}
use Rattle.hp_store.specs.Changes.{Entries}
use Rattle.hp_view.specs.Seeing.{reads_cell}

abbrev pub all_read : List Read → Entries → Bool
all_read reads es = list_all (λ (e : Cell × Option CellValue). list_any (reads_cell e.0) reads) es
