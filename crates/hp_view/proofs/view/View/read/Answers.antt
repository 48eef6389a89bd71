use Rattle.std.proofs.Common.{◌∙◌, sym, ap}
use Rattle.hp_value.specs.Mapped.{cell}
use Rattle.hp_store.specs.Changes.{changes}
use Rattle.hp_view.specs.contracts.view.View.{the_view}
use Rattle.hp_view.proofs.Reading.{Noted, shows_covered, shows_again, holds_from, noted_first, GoesOn-only, some_seen}
use Rattle.hp_view.proofs.view.View.read.Goals as goal

pub returns-then-is_some-clause-shows : goal.returns-then-is_some-clause-shows
returns-then-is_some-clause-shows c =
    shows_covered (cell c.args.cell) c.self.view_is
    (some_seen _ _ (c.get.ensures ∙ ap (λ es. changes es (cell c.args.cell)) c.deref.ensures) ∙ sym c.is_some.ensures ∙ c.if-is_some.true)

pub returns-then-is_some-clause-reads_held : goal.returns-then-is_some-clause-reads_held
returns-then-is_some-clause-reads_held c = holds_from c.self.view_is c.self.invariant.held

pub returns-then-has_cell-clause-shows : goal.returns-then-has_cell-clause-shows
returns-then-has_cell-clause-shows c =
    shows_again (cell c.args.cell) c.self.view_is c.self.invariant.held (sym c.has_cell.ensures ∙ c.if-has_cell.true)

pub returns-then-has_cell-clause-reads_held : goal.returns-then-has_cell-clause-reads_held
returns-then-has_cell-clause-reads_held c = holds_from c.self.view_is c.self.invariant.held

first_read : (c : goal.In_ok-note_value) → Noted (the_view c.self.inside) c.args.self.now (cell c.args.cell) c.note_value.new.self
first_read c =
    noted_first (cell c.args.cell) c.note_value.new.self _ c.self.view_is c.self.invariant.held
    (some_seen _ _ (c.get.ensures ∙ ap (λ es. changes es (cell c.args.cell)) c.deref.ensures) ∙ sym c.is_some.ensures ∙ c.if-is_some.false)
    c.in_ok-note_value.ensures.ok c.get-2.ensures

pub invariant_of-self-2 : goal.invariant_of-self-2
invariant_of-self-2 c = record { held = (first_read c).held; covered = c.self.invariant.covered }

pub returns-clause-shows : goal.returns-clause-shows
returns-clause-shows c = (first_read c).shows

pub returns-clause-only : goal.returns-clause-only
returns-clause-only c = (first_read c).only

pub returns-clause-goes_on : goal.returns-clause-goes_on
returns-clause-goes_on c = GoesOn-only (first_read c).only

pub returns-clause-reads_held : goal.returns-clause-reads_held
returns-clause-reads_held c = (first_read c).held
