use Rattle.std.proofs.Common.{ap, sym, ◌∙◌, arith, below_more, subst, List}
use Rattle.hp_board.specs.Passes.{Fact, AgreeAt, cells_of}
use Rattle.hp_board.proofs.Passes.{meet_cell, meet_here, same_length}
use Rattle.hp_board.proofs.cells.meet.Goals as goal

pub agrees-requires : goal.agrees-requires
agrees-requires g c =
    let same = ap cells_of c.one.view_is ∙ (c.requires ∙ sym (ap cells_of c.other.view_is)) in
    meet_cell _ _ c.loop-i.i _ _ same (omega (arith, c.len-i-end.ensures)) c.index.ensures c.index-in-loop-i.ensures

pub loop-i-preserved : goal.loop-i-preserved
loop-i-preserved g c =
    let same = ap cells_of c.one.view_is ∙ (c.requires ∙ sym (ap cells_of c.other.view_is)) in
    let here = meet_here _ _ c.loop-i.i _ _ (omega (arith, c.len-i-end.ensures)) (omega (arith, c.len-i-end.ensures, same_length _ _ same)) c.index.ensures
    c.index-in-loop-i.ensures c.agrees.ensures in
    below_more _ _ c.loop-i.invariant
    (subst (λ (l : List (Fact g.row.T.Denot)). AgreeAt l c.args.other.now c.loop-i.i) c.one.view_is
    (subst (λ (m : List (Fact g.row.T.Denot)). AgreeAt c.one.inside.known.items m c.loop-i.i) c.other.view_is here))
