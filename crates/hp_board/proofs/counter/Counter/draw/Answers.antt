use Rattle.std.proofs.Common.{rules, cond, ap, ◌∙◌}
use Rattle.hp_board.proofs.Draws.{draws_as}
use Rattle.hp_board.proofs.counter.Counter.draw.Goals as goal

pub fetch_add-found-requires : goal.fetch_add-found-requires
fetch_add-found-requires c = let i = c.seat.invariant in (search rules, search rules, draws_as _ _ _ c.seat.inside.token.me i.slots i.parts (i.missed ∙ ap (λ b. cond b 1 0) c.if-seat.false))
