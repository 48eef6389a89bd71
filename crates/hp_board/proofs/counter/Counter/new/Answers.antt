use Rattle.std.proofs.Common.{rules, arith}
use Rattle.hp_board.proofs.Draws.{splits, opens}
use Rattle.hp_board.proofs.counter.Counter.new.Goals as goal

pub of_words-requires : goal.of_words-requires
of_words-requires c = opens _ (omega arith)

pub split_seat-token-requires : goal.split_seat-token-requires
split_seat-token-requires c = (search rules, search rules, splits _ _ _ (omega arith) (omega arith))
