use Rattle.std.proofs.Common.{rules}
use Rattle.hp_sessions.proofs.Moves.{shows, compares}
use Rattle.hp_sessions.proofs.tokens.recall.Goals as goal

pub join_seat-requires : goal.join_seat-requires
join_seat-requires c = (search rules, search rules, search rules, search rules, shows _ c.args.book.now.me.0 _ c.copy_of-copy.result.me.0)

pub load-requires : goal.load-requires
load-requires c = (search rules, search rules, compares _ _ c.join_seat.new.seat.me (λ n. n))
