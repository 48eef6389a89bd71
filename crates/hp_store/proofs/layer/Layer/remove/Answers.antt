use Rattle.std.proofs.Common.{None, refl, map}
use Rattle.hp_model.specs.Cells.{over}
use Rattle.hp_value.specs.Mapped.{cell}
use Rattle.hp_store.specs.Changes.{changes}
use Rattle.hp_store.specs.Mapped.{entry}
use Rattle.hp_store.specs.Parts.{no_cells}
use Rattle.hp_store.proofs.Noted.{complete_change}
use Rattle.std.specs.BTreeMap.{is_at}
use Rattle.hp_store.proofs.Cells.{cell_cmp}
use Rattle.hp_store.proofs.Entered.{fit-remove, new_change, old_change}
use Rattle.hp_store.proofs.layer.Layer.remove.Goals as goal

pub invariant_of-self : goal.invariant_of-self
invariant_of-self c = (
  rw c.remove-old.ensures.entries (fit-remove (is_at (cell_cmp c.args.cell)) c.self.inside.changes.entries c.self.invariant.0),
  complete_change (changes (map entry c.self.inside.changes.entries)) (changes (map entry c.remove-old.new.self.entries)) (cell c.args.cell) None c.renew.new.indexes.items
      (new_change c.self.inside.changes c.remove-old.new.self c.args.cell None (map entry c.self.inside.changes.entries) refl c.remove-old.ensures.updates.0)
      (c.renew.ensures (over no_cells (changes (map entry c.self.inside.changes.entries))) c.self.invariant.1),
)

pub returns-clause-changes : goal.returns-clause-changes
returns-clause-changes c = new_change c.self.inside.changes c.remove-old.new.self c.args.cell None c.args.self.now c.self.view_is c.remove-old.ensures.updates.0

pub returns-clause-old : goal.returns-clause-old
returns-clause-old c = old_change c.args.cell c.self.inside.changes c.args.self.now c.remove-old.result c.self.view_is c.remove-old.ensures.value
