use Rattle.std.proofs.Common.{ap₂, subst}
use Rattle.hp_model.specs.Cells.{AreKeys, over}
use Rattle.hp_store.specs.Changes.{changes_in}
use Rattle.hp_store.specs.Tables.{base_cells}
use Rattle.hp_store.proofs.Stacked.{keys_shown}
use Rattle.hp_store.proofs.snapshot.Snapshot.keys.Goals as goal

pub returns : goal.returns
returns c =
    keys_shown c.self.inside.base.value c.self.inside.layers.items c.args.self.now c.args.class c.in_ok-keys.keys.items c.self.view_is
    (subst (λ cs. AreKeys cs c.args.class c.in_ok-keys.keys.items) (ap₂ (λ b l. over (base_cells b) (changes_in l)) c.deref.ensures c.deref-2.ensures) c.in_ok-keys.ensures)
