use Rattle.hp_store.specs.Stack.{cells_in}
use Rattle.hp_top.proofs.Attempted.{opening_cells}
use Rattle.hp_top.proofs.items.opening.Goals as goal

pub returns : goal.returns
returns c = opening_cells (cells_in c.in_ok-store.store) c.in_ok-store.ensures
