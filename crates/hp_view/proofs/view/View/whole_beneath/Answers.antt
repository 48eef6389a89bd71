use Rattle.std.proofs.Common.{◌≡◌, ◌∙◌, sym, ap, subst}
use Rattle.hp_model.specs.Cells.{AreObjects, Holds, objects_read}
use Rattle.hp_store.specs.Stack.{cells_in}
use Rattle.hp_view.specs.Seeing.{noted}
use Rattle.hp_view.specs.contracts.view.View.{the_view}
use Rattle.hp_view.proofs.Reading.{holds_from, noted_held, noted_only, GoesOn-only}
use Rattle.hp_store.proofs.Wholes.{told_some}
use Rattle.hp_view.proofs.Wholes.{whole_noted}
use Rattle.hp_view.proofs.view.View.whole_beneath.Goals as goal

pub returns-in-Some-clause-held : goal.returns-in-Some-clause-held
returns-in-Some-clause-held c = λ base here.
    subst (AreObjects base c.args.class) (sym c.in_ok-try_clone.ensures) (c.in-Some.ensures.held base (subst (λ u. Holds base u.reads) (sym c.self.view_is) here))

pub returns-in-Some-clause-reads_held : goal.returns-in-Some-clause-reads_held
returns-in-Some-clause-reads_held c = holds_from c.self.view_is c.self.invariant.held

pub returns-then-is_some-clause-reads_held : goal.returns-then-is_some-clause-reads_held
returns-then-is_some-clause-reads_held c = holds_from c.self.view_is c.self.invariant.held

pub returns-in_default-2-clause-reads_held : goal.returns-in_default-2-clause-reads_held
returns-in_default-2-clause-reads_held c = holds_from c.self.view_is c.self.invariant.held

whole : (c : goal.In_ok-note_objects) → AreObjects (cells_in c.self.inside.base) c.args.class c.in-Some-2.objects.value
whole c = told_some (λ objects. AreObjects (cells_in c.self.inside.base) c.args.class objects.value) c.in-Some-2.is c.in_ok-objects.ensures.objects

reads_are : (c : goal.In_ok-note_objects) → c.note_objects.new.self ≡ noted c.self.inside.reads (objects_read c.args.class c.in-Some-2.objects.value)
reads_are c = c.in_ok-note_objects.ensures.ok ∙ ap (λ os. noted c.self.inside.reads (objects_read c.args.class os)) c.in_ok-shared.ensures

pub invariant_of-self-2 : goal.invariant_of-self-2
invariant_of-self-2 c = record {
  held = noted_held (the_view c.self.inside) (objects_read c.args.class c.in-Some-2.objects.value) c.note_objects.new.self c.self.invariant.held (whole c) (reads_are c);
  covered = c.self.invariant.covered;
}

pub returns-clause-held : goal.returns-clause-held
returns-clause-held c =
    whole_noted c.self.inside.reads c.args.class c.in-Some-2.objects.value c.note_objects.new.self (sym c.keys.ensures.known ∙ sym c.is_some.ensures ∙ c.if-is_some.false) (reads_are c)

pub returns-clause-only : goal.returns-clause-only
returns-clause-only c = noted_only (objects_read c.args.class c.in-Some-2.objects.value) c.note_objects.new.self c.self.view_is (reads_are c)

pub returns-clause-goes_on : goal.returns-clause-goes_on
returns-clause-goes_on c = GoesOn-only (noted_only (objects_read c.args.class c.in-Some-2.objects.value) c.note_objects.new.self c.self.view_is (reads_are c))

pub returns-clause-reads_held : goal.returns-clause-reads_held
returns-clause-reads_held c =
    noted_held (the_view c.self.inside) (objects_read c.args.class c.in-Some-2.objects.value) c.note_objects.new.self c.self.invariant.held (whole c) (reads_are c)
