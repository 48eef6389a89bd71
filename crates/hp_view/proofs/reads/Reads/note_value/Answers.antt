use Rattle.std.proofs.Common.{◌∙◌, ap}
use Rattle.std.specs.List.{list_any}
use Rattle.hp_value.specs.Mapped.{cell}
use Rattle.hp_view.specs.Seeing.{reads_cell}
use Rattle.hp_view.proofs.Noting.{first_false}
use Rattle.hp_view.proofs.reads.Reads.note_value.Goals as goal

pub note-requires-clause-new : goal.note-requires-clause-new
note-requires-clause-new c = ap (list_any (reads_cell (cell c.args.cell))) c.self.view_is ∙ first_false _ _ c.requires
