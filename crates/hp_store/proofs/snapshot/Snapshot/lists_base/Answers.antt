use Rattle.std.proofs.Common.{ap, sym, ◌∙◌}
use Rattle.std.specs.List.{list_all}
use Rattle.hp_model.specs.Cells.{object_cell, over}
use Rattle.hp_store.specs.Changes.{changes}
use Rattle.hp_store.specs.Listed.{is_listed}
use Rattle.hp_store.specs.Stack.{cells_in}
use Rattle.hp_store.proofs.Stacked.{table_shown}
use Rattle.hp_store.proofs.snapshot.Snapshot.lists_base.Goals as goal

pub returns-in-Some : goal.returns-in-Some
returns-in-Some c =
    c.lists_table.ensures
    ∙ ap (λ es. list_all (λ e. is_listed (over (cells_in c.args.self.now) (changes c.args.writes.now)) c.args.keys.now (object_cell c.args.class e.0)) es)
    (c.in-Some.ensures ∙ table_shown c.self.inside.base.value c.deref.result.now c.self.inside.layers.items c.args.self.now c.args.class c.self.view_is c.deref.ensures)

pub returns-in-None : goal.returns-in-None
returns-in-None c =
    ap (λ es. list_all (λ e. is_listed (over (cells_in c.args.self.now) (changes c.args.writes.now)) c.args.keys.now (object_cell c.args.class e.0)) es)
    (sym c.in-None.ensures ∙ table_shown c.self.inside.base.value c.deref.result.now c.self.inside.layers.items c.args.self.now c.args.class c.self.view_is c.deref.ensures)
