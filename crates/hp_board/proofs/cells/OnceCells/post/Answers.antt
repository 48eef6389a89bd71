use Rattle.std.proofs.Common.{ap, ◌∙◌, Some}
use Rattle.hp_board.proofs.Passes.{length_of, pass_of, cell_at, known_of, learns, still_of, agrees_none}
use Rattle.hp_board.proofs.cells.OnceCells.post.Goals as goal

pub post-requires : goal.post-requires
post-requires g c =
    let of = pass_of _ _ _ c.pass.view_is c.requires.pass in
    cell_at _ _ _ c.index_mut.ensures.value (length_of _ _ _ of c.requires.cell) _ _ _ c.self.view_is of c.index.ensures

pub returns-in-Ok-clause-ok : goal.returns-in-Ok-clause-ok
returns-in-Ok-clause-ok g c =
    let e = c.in-Ok.ensures in
    let of = pass_of _ _ _ c.pass.view_is c.requires.pass in
    let in' = length_of _ _ _ of c.requires.cell in (
      learns _ _ _ c.index_mut.ensures.value in' _ c.pass.view_is _ e.cell _ (e.ok.0 ∙ ap Some c.posted.view_is) (agrees_none _ _ e.ok.1),
      still_of _ _ _ c.index_mut.ensures.value in' _ c.pass.view_is _ e.cell _ of,
      known_of _ _ _ c.index_mut.ensures.value in' _ c.pass.view_is e.ok.1,
    )

pub returns-in-Err-clause-err : goal.returns-in-Err-clause-err
returns-in-Err-clause-err g c =
    let e = c.in-Err.ensures in
    let of = pass_of _ _ _ c.pass.view_is c.requires.pass in
    let in' = length_of _ _ _ of c.requires.cell in (
      e.err ∙ c.posted.view_is,
      still_of _ _ _ c.index_mut.ensures.value in' _ c.pass.view_is _ e.cell _ of,
      (e.known.0, learns _ _ _ c.index_mut.ensures.value in' _ c.pass.view_is _ e.cell _ e.known.1 e.known.2),
    )
