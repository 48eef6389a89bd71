use Rattle.std.proofs.Common.{◌≡◌, vec_items, map, take}
use Rattle.hp_board.proofs.Passes.{fresh}
use Rattle.hp_board.proofs.cells.OnceCells.pass.Given as goal

abbrev pub invariant-loop-cell : goal.invariant-loop-cell
invariant-loop-cell g l = vec_items l.known ≡ map fresh (take l.cell-index l.cell-items)
