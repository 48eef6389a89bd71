use Rattle.std.proofs.Common.{Some, refl, map}
use Rattle.hp_model.specs.Cells.{over}
use Rattle.hp_value.specs.Mapped.{cell}
use Rattle.hp_store.specs.Changes.{changes}
use Rattle.hp_store.specs.Mapped.{change, entry}
use Rattle.hp_store.specs.Parts.{no_cells}
use Rattle.hp_store.proofs.Noted.{complete_change}
use Rattle.hp_store.proofs.Entered.{unnamed, fit-insert, new_change, old_change}
use Rattle.hp_store.proofs.layer.Layer.put.Goals as goal

pub returns-in_err-old-clause-covered : goal.returns-in_err-old-clause-covered
returns-in_err-old-clause-covered c = λ named. absurd (unnamed c.args.cell c.self.inside.changes c.args.self.now c.self.view_is c.in_err-old.ensures.absent named)

pub invariant_of-self-2 : goal.invariant_of-self-2
invariant_of-self-2 c = (
  rw c.in_ok-old.ensures.entries (fit-insert c.args.cell c.args.change c.self.inside.changes.entries c.requires c.self.invariant.0),
  complete_change (changes (map entry c.self.inside.changes.entries)) (changes (map entry c.insert.new.self.entries)) (cell c.args.cell) (Some (change c.args.change)) c.renew.new.indexes.items
      (new_change c.self.inside.changes c.insert.new.self c.args.cell (Some c.args.change) (map entry c.self.inside.changes.entries) refl c.in_ok-old.ensures.updates.0)
      (c.renew.ensures (over no_cells (changes (map entry c.self.inside.changes.entries))) c.self.invariant.1),
)

pub returns-clause-ok : goal.returns-clause-ok
returns-clause-ok c = new_change c.self.inside.changes c.insert.new.self c.args.cell (Some c.args.change) c.args.self.now c.self.view_is c.in_ok-old.ensures.updates.0

pub returns-clause-old : goal.returns-clause-old
returns-clause-old c = old_change c.args.cell c.self.inside.changes c.args.self.now c.in_ok-old.old c.self.view_is c.in_ok-old.ensures.old
