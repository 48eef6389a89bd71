use Rattle.std.proofs.Common.{ap, ◌∙◌, arith}
use Rattle.hp_board.specs.Deal.{Deal}
use Rattle.hp_board.proofs.Draws.{ended, ended_alone}
use Rattle.hp_board.proofs.counter.Counter.end.Goals as goal

pub returns-in-Some : goal.returns-in-Some
returns-in-Some c =
    let i = c.self.invariant in
    let v = c.self.view_is in
    ended _ _ _ _ c.end_with.ensures c.in-Some.ensures.some.1 _ _ (i.numbers ∙ ap (λ (d : Deal). d.numbers) v) (i.seats ∙ ap (λ (d : Deal). d.seats) v)

pub returns-in-None : goal.returns-in-None
returns-in-None c = let s = ap (λ (d : Deal). d.seats) c.self.view_is in ended_alone _ _ _ _ c.in-None.ensures.none (omega (arith, c.self.invariant.seated, s))
