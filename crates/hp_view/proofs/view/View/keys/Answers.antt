use Rattle.std.proofs.Common.{◌∙◌, sym, ap, subst, int_cmp}
use Rattle.std.specs.List.Sorted.{IsStrictlySortedBy}
use Rattle.hp_model.specs.Cells.{keys_read}
use Rattle.hp_store.specs.Stack.{cells_in}
use Rattle.hp_view.specs.Seeing.{noted}
use Rattle.hp_view.specs.contracts.view.View.{the_view}
use Rattle.hp_view.proofs.Reading.{reads_keys_again, shows_keys_again, holds_from, NotedKeys, noted_keys, merged_over, GoesOn-only}
use Rattle.hp_view.proofs.view.View.keys.Goals as goal

pub keys_over-requires : goal.keys_over-requires
keys_over-requires c =
    subst (IsStrictlySortedBy int_cmp) (sym c.in_ok-under.ensures.items) (c.in-Some.ensures.held (cells_in c.self.inside.base) c.self.invariant.held).rise

pub returns-in-Some-clause-reads : goal.returns-in-Some-clause-reads
returns-in-Some-clause-reads c =
    reads_keys_again c.args.class c.in-Some.recorded.now c.self.view_is (c.in-Some.ensures.held (cells_in c.self.inside.base) c.self.invariant.held) (sym c.in-Some.ensures.known)

pub returns-in-Some-clause-shows : goal.returns-in-Some-clause-shows
returns-in-Some-clause-shows c =
    shows_keys_again c.args.class c.in-Some.recorded.now c.in_ok-keys.keys.items c.self.view_is c.self.invariant.held
    (c.in-Some.ensures.held (cells_in c.self.inside.base) c.self.invariant.held) (sym c.in-Some.ensures.known)
    (merged_over c.in_ok-under.ensures.items c.deref.ensures c.in_ok-keys.ensures)

pub returns-in-Some-clause-reads_held : goal.returns-in-Some-clause-reads_held
returns-in-Some-clause-reads_held c = holds_from c.self.view_is c.self.invariant.held

first_keys : (c : goal.In_ok-note_keys) → NotedKeys (the_view c.self.inside) c.args.self.now c.args.class c.in_ok-keys-2.keys.items c.note_keys.new.self
first_keys c =
    noted_keys c.args.class c.in_ok-beneath.beneath.items c.in_ok-keys-2.keys.items c.note_keys.new.self c.self.view_is c.self.invariant.held c.in_ok-beneath.ensures
    (merged_over (c.in_ok-under-2.ensures.items ∙ c.deref-2.ensures.value) c.deref-3.ensures c.in_ok-keys-2.ensures)
    (c.in_ok-note_keys.ensures.ok ∙ ap (λ rs. noted rs (keys_read c.args.class c.in_ok-beneath.beneath.items)) c.reserve.ensures)

pub invariant_of-self-2 : goal.invariant_of-self-2
invariant_of-self-2 c = record { held = (first_keys c).held; covered = c.self.invariant.covered }

pub returns-clause-shows : goal.returns-clause-shows
returns-clause-shows c = (first_keys c).shows

pub returns-clause-only : goal.returns-clause-only
returns-clause-only c = (first_keys c).only

pub returns-clause-goes_on : goal.returns-clause-goes_on
returns-clause-goes_on c = GoesOn-only (first_keys c).only

pub returns-clause-reads_held : goal.returns-clause-reads_held
returns-clause-reads_held c = (first_keys c).held
