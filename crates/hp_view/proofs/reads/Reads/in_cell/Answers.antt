use Rattle.std.proofs.Common.{◌≡◌, ◌∙◌, ap, subst, is_some}
use Rattle.std.specs.List.{list_any}
use Rattle.std.specs.Prelude.{IfSome}
use Rattle.hp_model.specs.Cells.{Cells, Holds}
use Rattle.hp_value.specs.Mapped.{cell}
use Rattle.hp_view.specs.declared.reads.Seen.TheVariants.{Cell as OfCell}
use Rattle.hp_view.specs.Mapped.{value_found}
use Rattle.hp_view.specs.Seeing.{reads_cell}
use Rattle.hp_view.proofs.Noting.{value_told, recorded, copied_some}
use Rattle.hp_view.proofs.reads.Reads.in_cell.Goals as goal

pub returns-clause-known : goal.returns-clause-known
returns-clause-known c =
    copied_some c.get.result ∙ ap is_some c.get.ensures.value ∙ recorded (OfCell c.args.cell) c.self.inside.entries.entries c.self.invariant
    ∙ ap (list_any (reads_cell (cell c.args.cell))) c.self.view_is

pub returns-clause-held : goal.returns-clause-held
returns-clause-held c =
    subst (λ reads. IfSome c.get.result (λ found. (base : Cells) → Holds base reads → value_found found.now ≡ base (cell c.args.cell))) c.self.view_is
    (value_told c.args.cell c.get.result c.self.inside.entries.entries c.get.ensures.value)
