use Rattle.std.proofs.Common.{refl}
use Rattle.hp_sessions.proofs.Legal.{ran}
use Rattle.hp_sessions.proofs.book.Book.settle.Goals as goal

pub returns-in-Ok-clause-ok : goal.returns-in-Ok-clause-ok
returns-in-Ok-clause-ok g c = ran c.args.session c.args.unit c.args.self.now c.commit.new.self c.in-Ok.receipt c.args.unit.time c.args.unit.body refl refl c.in-Ok.ensures.ok
