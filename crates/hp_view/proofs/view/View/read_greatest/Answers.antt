use Rattle.std.proofs.Common.{◌∙◌, sym, ap, inr, true≢false}
use Rattle.hp_store.specs.Stack.{cells_in}
use Rattle.hp_view.specs.Seeing.{Seeing, greatest_was_read}
use Rattle.hp_view.specs.contracts.view.View.{the_view}
use Rattle.hp_view.proofs.Greatest.{reads_greatest_again, shows_greatest_again, deletes_greatest, greatest_alone, shows_by_keys, held_by_keys, on_ok, NotedGreatest, noted_greatest}
use Rattle.hp_view.proofs.Reading.{holds_from, some_told, GoesOn-only}
use Rattle.hp_view.proofs.view.View.read_greatest.Goals as goal

pub returns-then-is_some-clause-reads : goal.returns-then-is_some-clause-reads
returns-then-is_some-clause-reads c =
    let again = sym c.is_some.ensures ∙ c.if-is_some.true in
    let found = some_told c.keys.result c.keys.ensures.held again in
    reads_greatest_again c.args.class found.0.now c.self.view_is (found.1 (cells_in c.self.inside.base) c.self.invariant.held) (sym c.keys.ensures.known ∙ again)

pub returns-then-is_some-clause-shows : goal.returns-then-is_some-clause-shows
returns-then-is_some-clause-shows c =
    let again = sym c.is_some.ensures ∙ c.if-is_some.true in
    let found = some_told c.keys.result c.keys.ensures.held again in
    shows_greatest_again c.args.class found.0.now c.args.greatest c.self.view_is c.self.invariant.held (found.1 (cells_in c.self.inside.base) c.self.invariant.held)
    (sym c.keys.ensures.known ∙ again) c.requires

pub returns-then-is_some-clause-reads_held : goal.returns-then-is_some-clause-reads_held
returns-then-is_some-clause-reads_held c = holds_from c.self.view_is c.self.invariant.held

pub returns-then-not-is_up_to-clause-reads : goal.returns-then-not-is_up_to-clause-reads
returns-then-not-is_up_to-clause-reads c =
    on_ok c.read_keys.result (λ reads. record {
      either = inr (
        deletes_greatest c.args.class c.greatest_key-beneath.result c.args.greatest c.self.view_is c.greatest_key-beneath.ensures c.requires (c.is_up_to.ensures.above c.if-not-is_up_to.true),
        reads,
      );
    }) c.read_keys.ensures.reads

pub returns-then-not-is_up_to-clause-shows : goal.returns-then-not-is_up_to-clause-shows
returns-then-not-is_up_to-clause-shows c = on_ok c.read_keys.result (shows_by_keys c.args.class c.args.greatest c.self.view_is c.self.invariant.held c.requires) c.read_keys.ensures.reads

pub returns-then-not-is_up_to-clause-reads_held : goal.returns-then-not-is_up_to-clause-reads_held
returns-then-not-is_up_to-clause-reads_held c = on_ok c.read_keys.result (held_by_keys c.args.class c.self.view_is c.self.invariant.held) c.read_keys.ensures.reads

first_greatest : (c : goal.In_ok-note_greatest) → NotedGreatest (the_view c.self.inside) c.args.self.now c.args.class c.args.greatest c.note_greatest.new.self
first_greatest c =
    noted_greatest c.args.class c.greatest_key-beneath.result c.args.greatest c.note_greatest.new.self c.self.view_is c.self.invariant.held c.greatest_key-beneath.ensures c.requires
    (c.is_up_to.ensures.up_to c.if-not-is_up_to.false) (sym c.keys.ensures.known ∙ sym c.is_some.ensures ∙ c.if-is_some.false) c.in_ok-note_greatest.ensures.ok

pub invariant_of-self-2 : goal.invariant_of-self-2
invariant_of-self-2 c = record { held = (first_greatest c).held; covered = c.self.invariant.covered }

pub returns-clause-reads : goal.returns-clause-reads
returns-clause-reads c = (first_greatest c).reads_it

pub returns-clause-shows : goal.returns-clause-shows
returns-clause-shows c = (first_greatest c).shows

pub returns-clause-only : goal.returns-clause-only
returns-clause-only c = (first_greatest c).only

pub returns-clause-goes_on : goal.returns-clause-goes_on
returns-clause-goes_on c = GoesOn-only (first_greatest c).only

pub returns-clause-reads_held : goal.returns-clause-reads_held
returns-clause-reads_held c = (first_greatest c).held

pub returns-then-not-is_up_to-clause-again : goal.returns-then-not-is_up_to-clause-again
returns-then-not-is_up_to-clause-again c = λ known.
    let unread = sym c.keys.ensures.known ∙ sym c.is_some.ensures ∙ c.if-is_some.false in
    absurd ((greatest_alone c.args.class c.self.view_is unread known).1
    (deletes_greatest c.args.class c.greatest_key-beneath.result c.args.greatest c.self.view_is c.greatest_key-beneath.ensures c.requires (c.is_up_to.ensures.above c.if-not-is_up_to.true)))

pub returns-in_err-note_greatest-clause-again : goal.returns-in_err-note_greatest-clause-again
returns-in_err-note_greatest-clause-again c = λ known.
    let unread = sym c.keys.ensures.known ∙ sym c.is_some.ensures ∙ c.if-is_some.false in
    let found = (greatest_alone c.args.class c.self.view_is unread known).0 in
    absurd (true≢false (sym (c.in_err-note_greatest.ensures.again (ap (λ (u : Seeing). greatest_was_read u.reads c.args.class) c.self.view_is ∙ found))))
