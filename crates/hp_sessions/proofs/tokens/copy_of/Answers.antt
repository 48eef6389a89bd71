use Rattle.std.proofs.Common.{rules}
use Rattle.hp_sessions.proofs.Moves.{copies}
use Rattle.hp_sessions.proofs.tokens.copy_of.Goals as goal

pub split_seat-requires : goal.split_seat-requires
split_seat-requires c = (search rules, search rules, copies _ c.args.token.now.me.0)
