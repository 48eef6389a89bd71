use Rattle.std.proofs.Common.{subst}
use Rattle.hp_sessions.specs.Books.{IsLegalBook}
use Rattle.hp_sessions.proofs.history.History.legal.Goals as goal

pub returns : goal.returns
returns g c = subst IsLegalBook c.self.view_is c.legal.ensures
