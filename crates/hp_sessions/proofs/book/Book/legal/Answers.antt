use Rattle.std.proofs.Common.{subst}
use Rattle.hp_sessions.specs.Books.{Ledger, IsLegalBook}
use Rattle.hp_sessions.proofs.Legal.{legal_book}
use Rattle.hp_sessions.proofs.book.Book.legal.Goals as goal

pub returns : goal.returns
returns g c =
    let i = c.self.inside in
    let b : Ledger = record { library = i.library.value; opening = i.opening; store = i.store; history = i.history.items } in
    subst IsLegalBook c.self.view_is (legal_book b c.self.invariant.4)
