use Rattle.std.proofs.Common.{subst}
use Rattle.std.specs.Prelude.{IfOk}
use Rattle.hp_model.specs.Cells.{Holds}
use Rattle.hp_store.specs.Stack.{cells_in}
use Rattle.hp_sessions.proofs.book.Book.made.Goals as goal

pub returns-clause-reads : goal.returns-clause-reads
returns-clause-reads g c = subst (λ s. IfOk c.make.result (λ u. Holds (cells_in s) u.reads)) c.in_ok-here.ensures c.make.ensures.reads
