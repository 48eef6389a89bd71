use Rattle.std.proofs.Common.{◌∙◌, sym}
use Rattle.hp_model.specs.Cells.{keys_read}
use Rattle.hp_store.specs.Stack.{cells_in}
use Rattle.hp_view.specs.contracts.view.View.{the_view}
use Rattle.hp_view.proofs.Reading.{reads_keys_again, shows_keys_still, noted_shown, noted_only, noted_held, some_told, GoesOn-only}
use Rattle.hp_view.proofs.view.View.read_keys.Goals as goal

pub returns-then-is_some-clause-reads : goal.returns-then-is_some-clause-reads
returns-then-is_some-clause-reads c =
    let again = sym c.is_some.ensures ∙ c.if-is_some.true in
    let found = some_told c.keys.result c.keys.ensures.held again in
    reads_keys_again c.args.class found.0.now c.self.view_is (found.1 (cells_in c.self.inside.base) c.self.invariant.held) (sym c.keys.ensures.known ∙ again)

pub returns-then-is_some-clause-shows : goal.returns-then-is_some-clause-shows
returns-then-is_some-clause-shows c keys now =
    let again = sym c.is_some.ensures ∙ c.if-is_some.true in
    let found = some_told c.keys.result c.keys.ensures.held again in
    shows_keys_still c.args.class found.0.now keys c.self.view_is c.self.invariant.held (found.1 (cells_in c.self.inside.base) c.self.invariant.held) (sym c.keys.ensures.known ∙ again) now

pub invariant_of-self-2 : goal.invariant_of-self-2
invariant_of-self-2 c = record {
  held = noted_held (the_view c.self.inside) (keys_read c.args.class c.in_ok-found.found.items) c.note_keys.new.self c.self.invariant.held c.in_ok-found.ensures c.in_ok-note_keys.ensures.ok;
  covered = c.self.invariant.covered;
}

pub returns-clause-shows : goal.returns-clause-shows
returns-clause-shows c keys now =
    (noted_shown c.args.class c.in_ok-found.found.items keys c.note_keys.new.self c.self.view_is c.self.invariant.held c.in_ok-found.ensures c.in_ok-note_keys.ensures.ok now).shows

pub returns-clause-only : goal.returns-clause-only
returns-clause-only c = noted_only (keys_read c.args.class c.in_ok-found.found.items) c.note_keys.new.self c.self.view_is c.in_ok-note_keys.ensures.ok

pub returns-clause-goes_on : goal.returns-clause-goes_on
returns-clause-goes_on c = GoesOn-only (noted_only (keys_read c.args.class c.in_ok-found.found.items) c.note_keys.new.self c.self.view_is c.in_ok-note_keys.ensures.ok)
