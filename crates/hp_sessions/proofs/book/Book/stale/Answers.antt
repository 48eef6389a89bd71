use Rattle.std.proofs.Common.{rules, ap, subst}
use Rattle.std.specs.Prelude.{IfNone, IfSome}
use Rattle.hp_model.specs.Cells.{Holds}
use Rattle.hp_store.specs.Stack.{cells_in}
use Rattle.hp_attempt.specs.Holding.{FirstFailed}
use Rattle.hp_sessions.specs.Books.{Ledger}
use Rattle.hp_sessions.proofs.book.Book.stale.Goals as goal

pub returns-in-Ok-None-clause-none : goal.returns-in-Ok-None-clause-none
returns-in-Ok-None-clause-none g c =
    subst (λ s. Holds (cells_in s) c.args.unit.now.reads) (ap (λ (l : Ledger). l.store) c.self.view_is)
    (subst (λ r. IfNone r (Holds (cells_in c.self.inside.store) c.args.unit.now.reads)) c.in-Ok-None.field-0-is c.in-Ok-None.ensures.none)

pub returns-in-Ok-Some-clause-some : goal.returns-in-Ok-Some-clause-some
returns-in-Ok-Some-clause-some g c =
    let failed =
    subst (λ s. FirstFailed (cells_in s) c.args.unit.now.reads c.in-Ok-Some.cell) (ap (λ (l : Ledger). l.store) c.self.view_is)
    (subst (λ r. IfSome r (λ seen. FirstFailed (cells_in c.self.inside.store) c.args.unit.now.reads seen)) c.in-Ok-Some.field-0-is c.in-Ok-Some.ensures.some) in
    (c.requires, search rules, failed)
