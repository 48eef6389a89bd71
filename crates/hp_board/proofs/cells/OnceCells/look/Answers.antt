use Rattle.hp_board.proofs.Passes.{length_of, pass_of, cell_at, looks_none, looks_some, still_of}
use Rattle.hp_board.proofs.cells.OnceCells.look.Goals as goal

pub look-found-requires : goal.look-found-requires
look-found-requires g c =
    let of = pass_of _ _ _ c.pass.view_is c.requires.pass in
    cell_at _ _ _ c.index_mut.ensures.value (length_of _ _ _ of c.requires.cell) _ _ _ c.self.view_is of c.index.ensures

pub returns-clause-none : goal.returns-clause-none
returns-clause-none g c =
    let of = pass_of _ _ _ c.pass.view_is c.requires.pass in
    looks_none _ _ _ c.index_mut.ensures.value (length_of _ _ _ of c.requires.cell) _ c.pass.view_is _ c.look-found.ensures.cell _ c.look-found.ensures.none

pub returns-clause-some : goal.returns-clause-some
returns-clause-some g c =
    let of = pass_of _ _ _ c.pass.view_is c.requires.pass in
    looks_some _ _ _ c.index_mut.ensures.value (length_of _ _ _ of c.requires.cell) _ c.pass.view_is _ c.look-found.ensures.cell _ _ c.look-found.ensures.some

pub returns-clause-pass : goal.returns-clause-pass
returns-clause-pass g c =
    let of = pass_of _ _ _ c.pass.view_is c.requires.pass in
    still_of _ _ _ c.index_mut.ensures.value (length_of _ _ _ of c.requires.cell) _ c.pass.view_is _ c.look-found.ensures.cell _ of
