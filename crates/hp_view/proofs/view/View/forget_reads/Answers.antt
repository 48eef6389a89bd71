use Rattle.std.proofs.Common.{sym, subst, take, drop}
use Rattle.std.proofs.lemmas.List.{take-append-drop}
use Rattle.hp_model.specs.Cells.{Holds}
use Rattle.hp_model.proofs.BridgesCells.{Holds-front}
use Rattle.hp_store.specs.Stack.{cells_in}
use Rattle.hp_view.proofs.view.View.forget_reads.Goals as goal

pub invariant_of-self : goal.invariant_of-self
invariant_of-self c = record {
  held = subst (Holds (cells_in c.self.inside.base)) (sym c.truncate.ensures)
      (Holds-front (cells_in c.self.inside.base) (take c.args.count c.self.inside.reads) (drop c.args.count c.self.inside.reads)
      (subst (Holds (cells_in c.self.inside.base)) (sym (take-append-drop c.args.count c.self.inside.reads)) c.self.invariant.held));
  covered = c.self.invariant.covered;
}
