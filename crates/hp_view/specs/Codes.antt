-- How reads and views are stored: a code of each.
use Rattle.std.specs.Prelude.{refl, List}
use Rattle.std.specs.Coded.{Coded, code_by, coded_list, coded_option, coded×, codes}
use Rattle.hp_model.specs.Cells.{Read}
use Rattle.hp_detect.specs.Codes.{knowledge_code}
use Rattle.hp_store.specs.Changes.{Entries}
use Rattle.hp_store.specs.Codes.{cell_code, value_code, entries_code}
use Rattle.hp_store.specs.Stack.{Stack, stack_code}
use Rattle.hp_view.specs.Seeing.{Seeing, Undo}

pub read_code : Coded Read
read_code = hlevel (codes, knowledge_code)

abbrev pub reads_code : Coded (List Read)
reads_code = coded_list read_code

abbrev pub undo_code : Coded Undo
undo_code = coded_list (coded× cell_code (coded_option (coded_option value_code)))

abbrev pub seeing_code : Coded Seeing
seeing_code =
    code_by (Stack × (List Read × (Entries × Undo))) (coded× stack_code (coded× reads_code (coded× entries_code undo_code)))
    (λ v. (v.base, (v.reads, (v.writes, v.undo)))) (λ p. record { base = p.0; reads = p.1.0; writes = p.1.1.0; undo = p.1.1.1 }) (λ _. refl)
