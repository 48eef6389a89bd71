use Rattle.hp_sessions.proofs.Legal.{ran}
use Rattle.hp_sessions.proofs.book.Book.run_now.Goals as goal

pub returns-in-Ok-append-clause-ok : goal.returns-in-Ok-append-clause-ok
returns-in-Ok-append-clause-ok g c =
    ran c.args.session c.in-Ok.unit c.args.self.now c.append.new.self c.in-Ok-append.receipt c.args.time c.args.body c.in-Ok.ensures.time c.in-Ok.ensures.body c.in-Ok-append.ensures.ok
