use Rattle.std.proofs.Common.{rules, ap}
use Rattle.atomic_table.specs.Table.{Me}
use Rattle.hp_sessions.specs.declared.entry.Entry.{Entry}
use Rattle.hp_sessions.specs.declared.tokens.View.{View}
use Rattle.hp_sessions.proofs.Moves.{appends}
use Rattle.hp_sessions.proofs.tokens.append.Goals as goal

pub compare_exchange_with-requires : goal.compare_exchange_with-requires
compare_exchange_with-requires c = (search rules, search rules, appends _ _ c.args.book.now.me (λ n. n) c.args.entry.now (ap (λ (m : Me Entry View). m.0.keeps) c.requires.2))
