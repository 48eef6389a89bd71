use Rattle.std.proofs.Common.{◌∙◌, sym, ap, ◌||◌}
use Rattle.std.specs.List.{list_any}
use Rattle.hp_view.specs.declared.reads.Seen.TheVariants.{Cell as OfCell}
use Rattle.hp_view.specs.Seeing.{reads_cell, row_was_read}
use Rattle.hp_value.specs.Mapped.{cell}
use Rattle.hp_view.proofs.Noting.{recorded}
use Rattle.hp_view.proofs.reads.Reads.has_cell.Goals as goal

pub returns-then-contains_key : goal.returns-then-contains_key
returns-then-contains_key c =
    c.if-contains_key.true
    ∙ ap (λ b. b || row_was_read c.args.self.now (cell c.args.cell))
    (sym c.if-contains_key.true ∙ c.contains_key.ensures ∙ recorded (OfCell c.args.cell) c.self.inside.entries.entries c.self.invariant
    ∙ ap (list_any (reads_cell (cell c.args.cell))) c.self.view_is)

pub returns-else-contains_key : goal.returns-else-contains_key
returns-else-contains_key c =
    c.has_row.ensures
    ∙ ap (λ b. b || row_was_read c.args.self.now (cell c.args.cell))
    (sym c.if-contains_key.false ∙ c.contains_key.ensures ∙ recorded (OfCell c.args.cell) c.self.inside.entries.entries c.self.invariant
    ∙ ap (list_any (reads_cell (cell c.args.cell))) c.self.view_is)
