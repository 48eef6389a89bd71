use Rattle.std.proofs.Common.{◌∙◌, sym, ap, inr, subst, true≢false}
use Rattle.hp_store.specs.Stack.{cells_in}
use Rattle.hp_store.specs.Changes.{class_entries}
use Rattle.hp_view.specs.Counts.{all_read}
use Rattle.hp_store.specs.Counts.{IsUncountable}
use Rattle.hp_view.specs.Seeing.{Seeing, beneath, count_was_read}
use Rattle.hp_view.specs.contracts.view.View.{the_view}
use Rattle.hp_view.proofs.Counting.{reads_count_again, shows_count_again, writes_unread, count_by_keys, count_alone, NotedCount, noted_count}
use Rattle.hp_view.proofs.Greatest.{held_by_keys, on_ok, on_err}
use Rattle.hp_view.proofs.Reading.{holds_from, some_told, GoesOn-only}
use Rattle.hp_view.proofs.view.View.read_class_count.Goals as goal

pub returns-then-is_some-clause-reads : goal.returns-then-is_some-clause-reads
returns-then-is_some-clause-reads c =
    let again = sym c.is_some.ensures ∙ c.if-is_some.true in
    let found = some_told c.keys.result c.keys.ensures.held again in
    reads_count_again c.args.class found.0.now c.self.view_is (found.1 (cells_in c.self.inside.base) c.self.invariant.held) (sym c.keys.ensures.known ∙ again)

pub returns-then-is_some-clause-shows : goal.returns-then-is_some-clause-shows
returns-then-is_some-clause-shows c =
    let again = sym c.is_some.ensures ∙ c.if-is_some.true in
    let found = some_told c.keys.result c.keys.ensures.held again in
    shows_count_again c.args.class found.0.now c.self.view_is c.self.invariant.held (found.1 (cells_in c.self.inside.base) c.self.invariant.held) (sym c.keys.ensures.known ∙ again)

pub returns-then-is_some-clause-reads_held : goal.returns-then-is_some-clause-reads_held
returns-then-is_some-clause-reads_held c = holds_from c.self.view_is c.self.invariant.held

pub returns-then-not-has_read_written-clause-reads : goal.returns-then-not-has_read_written-clause-reads
returns-then-not-has_read_written-clause-reads c =
    on_ok c.read_keys.result (λ reads. record {
      either = inr (
        writes_unread c.args.class c.self.view_is
            (ap (λ (u : Seeing). all_read u.reads (class_entries c.args.class u.writes)) c.self.view_is ∙ sym c.has_read_written.ensures ∙ c.if-not-has_read_written.true),
        reads,
      );
    }) c.read_keys.ensures.reads

pub returns-then-not-has_read_written-clause-shows : goal.returns-then-not-has_read_written-clause-shows
returns-then-not-has_read_written-clause-shows c = on_ok c.read_keys.result (count_by_keys c.args.class c.self.view_is c.self.invariant.held) c.read_keys.ensures.reads

pub returns-then-not-has_read_written-clause-reads_held : goal.returns-then-not-has_read_written-clause-reads_held
returns-then-not-has_read_written-clause-reads_held c = on_ok c.read_keys.result (held_by_keys c.args.class c.self.view_is c.self.invariant.held) c.read_keys.ensures.reads

first_count : (c : goal.In_ok-note_count) → NotedCount (the_view c.self.inside) c.args.self.now c.args.class c.note_count.new.self
first_count c =
    noted_count c.args.class c.in_ok-beneath.beneath c.note_count.new.self c.self.view_is c.self.invariant.held c.in_ok-beneath.ensures.count
    (sym c.keys.ensures.known ∙ sym c.is_some.ensures ∙ c.if-is_some.false)
    (ap (λ (u : Seeing). all_read u.reads (class_entries c.args.class u.writes)) c.self.view_is ∙ sym c.has_read_written.ensures ∙ c.if-not-has_read_written.false)
    c.in_ok-note_count.ensures.ok

pub invariant_of-self-2 : goal.invariant_of-self-2
invariant_of-self-2 c = record { held = (first_count c).held; covered = c.self.invariant.covered }

pub returns-clause-reads : goal.returns-clause-reads
returns-clause-reads c = (first_count c).reads_it

pub returns-clause-shows : goal.returns-clause-shows
returns-clause-shows c = (first_count c).shows

pub returns-clause-only : goal.returns-clause-only
returns-clause-only c = (first_count c).only

pub returns-clause-goes_on : goal.returns-clause-goes_on
returns-clause-goes_on c = GoesOn-only (first_count c).only

pub returns-clause-reads_held : goal.returns-clause-reads_held
returns-clause-reads_held c = (first_count c).held

pub returns-then-not-has_read_written-clause-again : goal.returns-then-not-has_read_written-clause-again
returns-then-not-has_read_written-clause-again c = λ known.
    let unread = sym c.keys.ensures.known ∙ sym c.is_some.ensures ∙ c.if-is_some.false in
    absurd ((count_alone c.args.class c.self.view_is unread known).1
    (writes_unread c.args.class c.self.view_is
    (ap (λ (u : Seeing). all_read u.reads (class_entries c.args.class u.writes)) c.self.view_is ∙ sym c.has_read_written.ensures ∙ c.if-not-has_read_written.true)))

pub returns-in_err-beneath-clause-again : goal.returns-in_err-beneath-clause-again
returns-in_err-beneath-clause-again c = λ known. on_err c.from_residual.result (subst (λ (u : Seeing). IsUncountable (beneath u) c.args.class) c.self.view_is c.in_err-beneath.ensures.err)

pub returns-in_err-note_count-clause-again : goal.returns-in_err-note_count-clause-again
returns-in_err-note_count-clause-again c = λ known.
    let unread = sym c.keys.ensures.known ∙ sym c.is_some.ensures ∙ c.if-is_some.false in
    let counted = (count_alone c.args.class c.self.view_is unread known).0 in
    absurd (true≢false (sym (c.in_err-note_count.ensures.again (ap (λ (u : Seeing). count_was_read u.reads c.args.class) c.self.view_is ∙ counted))))
