use Rattle.std.proofs.Common.{map, ap, ◌∙◌}
use Rattle.std.proofs.lemmas.List.{take_all}
use Rattle.once_cell.specs.Once.{cell_name}
use Rattle.hp_board.specs.Passes.{cells_of}
use Rattle.hp_board.proofs.Passes.{cells_of-fresh, all_fresh}
use Rattle.hp_board.proofs.cells.OnceCells.pass.Goals as goal

pub returns-clause-cells : goal.returns-clause-cells
returns-clause-cells g c =
    ap cells_of c.loop-cell.invariant
    ∙ (cells_of-fresh _ _ ∙ (ap (map cell_name) (take_all c.loop-cell.cell-index _ c.loop-cell-test.false ∙ c.deref-cell-items.ensures.value) ∙ c.self.view_is))

pub returns-clause-new : goal.returns-clause-new
returns-clause-new g c = all_fresh _ _ c.loop-cell.invariant
