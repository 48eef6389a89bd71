use Rattle.std.proofs.Common.{◌∙◌, ap, is_some}
use Rattle.hp_value.specs.Mapped.{cell}
use Rattle.hp_store.specs.Changes.{changes}
use Rattle.hp_view.specs.Mapped.{value_found}
use Rattle.hp_view.proofs.Reading.{peeked, some_seen}
use Rattle.hp_view.proofs.view.View.peek.Goals as goal

pub returns-in-Some-in_cell : goal.returns-in-Some-in_cell
returns-in-Some-in_cell c =
    c.value.ensures
    ∙ peeked (cell c.args.cell) (value_found c.in-Some-in_cell.found.now) c.self.view_is c.self.invariant.held
    (some_seen _ _ (c.get.ensures ∙ ap (λ es. changes es (cell c.args.cell)) c.deref.ensures) ∙ ap is_some c.in_default.is)
    c.in-Some-in_cell.ensures.held
