use Rattle.std.proofs.Common.{◌∙◌, ap, sym, subst, map, true≢false}
use Rattle.hp_model.specs.Cells.{ArePart}
use Rattle.hp_value.specs.Mapped.{class_part, keyed_row}
use Rattle.hp_store.specs.Stack.{cells_in}
use Rattle.hp_store.proofs.Wholes.{told_some}
use Rattle.hp_view.specs.Parts.{number_of}
use Rattle.hp_view.specs.Seeing.{Seeing, part_was_read, number_was_read, ReadsPart, ShowsPart}
use Rattle.hp_view.specs.contracts.view.View.{the_view}
use Rattle.hp_view.proofs.PartsRead.{PartRead, part_is_read, part_was_told, free_unread}
use Rattle.hp_view.proofs.Reading.{holds_from, GoesOn-only}
use Rattle.hp_view.proofs.view.View.read_part.Goals as goal

pub returns-in-WasRead-clause-reads : goal.returns-in-WasRead-clause-reads
returns-in-WasRead-clause-reads c = λ is_read.
    let p = class_part c.args.part.now in
    subst (λ u. ReadsPart c.args.self.now u c.args.class p) c.self.view_is (part_was_told c.args.class p c.self.view_is c.self.invariant.held c.in-WasRead.ensures).reads_it

pub returns-in-WasRead-clause-shows : goal.returns-in-WasRead-clause-shows
returns-in-WasRead-clause-shows c = λ is_read objects now.
    let p = class_part c.args.part.now in
    subst (λ u. ShowsPart u c.args.class p objects) c.self.view_is ((part_was_told c.args.class p c.self.view_is c.self.invariant.held c.in-WasRead.ensures).shows objects now)

pub returns-in-WasRead-clause-reads_held : goal.returns-in-WasRead-clause-reads_held
returns-in-WasRead-clause-reads_held c = holds_from c.self.view_is c.self.invariant.held

pub returns-in-IsTaken-clause-reads_held : goal.returns-in-IsTaken-clause-reads_held
returns-in-IsTaken-clause-reads_held c = holds_from c.self.view_is c.self.invariant.held

pub returns-in_default-clause-reads_held : goal.returns-in_default-clause-reads_held
returns-in_default-clause-reads_held c = holds_from c.self.view_is c.self.invariant.held

first_read : (c : goal.In_ok-note_part) → PartRead (the_view c.self.inside) c.args.self.now c.args.class (class_part c.args.part.now) c.note_part.new.self
first_read c =
    let p = class_part c.args.part.now in
    part_is_read c.args.class p (map keyed_row c.in-Some.objects.items) c.note_part.new.self c.self.view_is c.self.invariant.held
    (told_some (λ objects. ArePart (cells_in c.self.inside.base) c.args.class p (map keyed_row objects.items)) c.in-Some.is c.in_ok-objects.ensures.part) c.in_ok-note_part.ensures.ok

pub invariant_of-self-2 : goal.invariant_of-self-2
invariant_of-self-2 c = record { held = (first_read c).held; covered = c.self.invariant.covered }

pub returns-clause-reads : goal.returns-clause-reads
returns-clause-reads c = λ is_read. (first_read c).reads_it

pub returns-clause-shows : goal.returns-clause-shows
returns-clause-shows c = λ is_read. (first_read c).shows

pub returns-clause-only : goal.returns-clause-only
returns-clause-only c = (first_read c).only

pub returns-clause-goes_on : goal.returns-clause-goes_on
returns-clause-goes_on c = GoesOn-only (first_read c).only

pub returns-clause-reads_held : goal.returns-clause-reads_held
returns-clause-reads_held c = (first_read c).held

pub returns-in-IsTaken-clause-found : goal.returns-in-IsTaken-clause-found
returns-in-IsTaken-clause-found c = λ of free.
    let n = number_of (class_part c.args.part.now) in
    absurd (true≢false (sym c.in-IsTaken.ensures ∙ ap (λ (u : Seeing). number_was_read u.reads c.args.class n) c.self.view_is ∙ free))

pub returns-in_err-objects-clause-again : goal.returns-in_err-objects-clause-again
returns-in_err-objects-clause-again c = λ read.
    let p = class_part c.args.part.now in
    absurd (true≢false (sym read ∙ sym (ap (λ (u : Seeing). part_was_read u.reads c.args.class p) c.self.view_is) ∙ free_unread c.args.class p c.self.inside.reads c.in-IsFree.ensures))

pub returns-in_err-note_part-clause-again : goal.returns-in_err-note_part-clause-again
returns-in_err-note_part-clause-again c = λ read.
    let p = class_part c.args.part.now in
    absurd (true≢false (sym read ∙ sym (ap (λ (u : Seeing). part_was_read u.reads c.args.class p) c.self.view_is) ∙ free_unread c.args.class p c.self.inside.reads c.in-IsFree.ensures))
