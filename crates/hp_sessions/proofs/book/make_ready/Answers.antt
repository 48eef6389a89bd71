use Rattle.std.proofs.Common.{ap, ◌∙◌}
use Rattle.hp_model.specs.Cells.{over}
use Rattle.hp_store.specs.Changes.{changes}
use Rattle.hp_store.specs.Stack.{cells_in}
use Rattle.hp_sessions.proofs.book.make_ready.Goals as goal

pub returns-clause-store : goal.returns-clause-store
returns-clause-store c = c.in_ok-apply.ensures.ok ∙ ap (λ l. over (cells_in c.args.store.now) (changes l)) c.in_ok-layer.ensures
