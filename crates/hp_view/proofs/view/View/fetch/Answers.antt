use Rattle.std.proofs.Common.{◌∙◌, sym, ap, is_some, option_map}
use Rattle.hp_value.specs.Mapped.{cell}
use Rattle.hp_store.specs.Changes.{changes}
use Rattle.hp_store.specs.Mapped.{cell_value}
use Rattle.hp_view.specs.Mapped.{value_found}
use Rattle.hp_view.specs.contracts.view.View.{the_view}
use Rattle.hp_view.proofs.Reading.{Noted, peeked, shows_again, read_by_itself, read_with_class, noted_first, GoesOn-only, some_seen, on_same, always}
use Rattle.hp_view.proofs.view.View.fetch.Goals as goal

pub returns-in-Some-in_cell-clause-value : goal.returns-in-Some-in_cell-clause-value
returns-in-Some-in_cell-clause-value c =
    on_same (option_map (λ v. cell_value v)) c.shared-in-Some-in_cell.result c.shared-in-Some-in_cell.ensures
    (c.value.ensures
    ∙ peeked (cell c.args.cell) (value_found c.in-Some-in_cell.found.now) c.self.view_is c.self.invariant.held
    (some_seen _ _ (c.get.ensures ∙ ap (λ es. changes es (cell c.args.cell)) c.deref.ensures) ∙ ap is_some c.in_default.is)
    c.in-Some-in_cell.ensures.held)

pub returns-in-Some-in_cell-clause-shows : goal.returns-in-Some-in_cell-clause-shows
returns-in-Some-in_cell-clause-shows c =
    always _ (shows_again (cell c.args.cell) c.self.view_is c.self.invariant.held
    (read_by_itself (the_view c.self.inside).reads (cell c.args.cell) (sym c.in_cell.ensures.known ∙ ap is_some c.in-Some-in_cell.is)))

pub returns-then-has_row-clause-shows : goal.returns-then-has_row-clause-shows
returns-then-has_row-clause-shows c =
    always _ (shows_again (cell c.args.cell) c.self.view_is c.self.invariant.held
    (read_with_class (the_view c.self.inside).reads (cell c.args.cell) (sym c.has_row.ensures ∙ c.if-has_row.true)))

first_read : (c : goal.In_ok-note_value) → Noted (the_view c.self.inside) c.args.self.now (cell c.args.cell) c.note_value.new.self
first_read c =
    noted_first (cell c.args.cell) c.note_value.new.self _ c.self.view_is c.self.invariant.held
    (some_seen _ _ (c.get.ensures ∙ ap (λ es. changes es (cell c.args.cell)) c.deref.ensures) ∙ ap is_some c.in_default.is)
    c.in_ok-note_value.ensures.ok c.get-value.ensures

pub invariant_of-self-2 : goal.invariant_of-self-2
invariant_of-self-2 c = record { held = (first_read c).held; covered = c.self.invariant.covered }

pub returns-clause-shows : goal.returns-clause-shows
returns-clause-shows c = (first_read c).shows

pub returns-clause-only : goal.returns-clause-only
returns-clause-only c = (first_read c).only

pub returns-clause-goes_on : goal.returns-clause-goes_on
returns-clause-goes_on c = GoesOn-only (first_read c).only
