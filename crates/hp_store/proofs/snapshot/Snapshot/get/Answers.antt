use Rattle.std.proofs.Common.{ap, ◌∙◌}
use Rattle.std.specs.Prelude.{option_map}
use Rattle.hp_value.specs.Mapped.{cell}
use Rattle.hp_store.specs.Changes.{changes_in}
use Rattle.hp_store.specs.Mapped.{cell_value}
use Rattle.hp_store.specs.Tables.{base_cells}
use Rattle.hp_store.proofs.Stacked.{found_below}
use Rattle.hp_store.proofs.snapshot.Snapshot.get.Goals as goal

pub returns-in-None : goal.returns-in-None
returns-in-None c =
    found_below c.self.inside.base.value c.self.inside.layers.items c.args.self.now (cell c.args.cell) (option_map (λ v. cell_value v.now) c.get.result) c.self.view_is
    (c.in-None.ensures ∙ ap (λ l. changes_in l (cell c.args.cell)) c.deref.ensures) (c.get.ensures ∙ ap (λ b. base_cells b (cell c.args.cell)) c.deref-in-None.ensures)
