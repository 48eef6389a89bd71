use Rattle.hp_board.proofs.Draws.{ends_at}
use Rattle.hp_board.proofs.counter.end_with.Goals as goal

pub returns : goal.returns
returns c = ends_at _ _ _ _ _ _ c.close_with-closed.ensures.values.2 c.word-word.ensures
