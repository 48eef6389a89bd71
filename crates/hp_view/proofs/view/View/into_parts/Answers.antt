use Rattle.std.proofs.Common.{subst}
use Rattle.hp_model.specs.Cells.{Holds}
use Rattle.hp_store.specs.Stack.{cells_in}
use Rattle.hp_view.proofs.view.View.into_parts.Goals as goal

pub returns-clause-reads_held : goal.returns-clause-reads_held
returns-clause-reads_held c = subst (λ v. Holds (cells_in v.base) c.self.inside.reads) c.self.view_is c.self.invariant.held
