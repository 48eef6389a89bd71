use Rattle.std.proofs.Common.{◌∙◌, sym, ap}
use Rattle.hp_model.specs.Cells.{object_cell}
use Rattle.hp_store.specs.Changes.{changes}
use Rattle.hp_view.proofs.Reading.{holds_from}
use Rattle.hp_view.proofs.Wholes.{shows_beneath, told_map}
use Rattle.hp_view.proofs.view.View.objects.Goals as goal

pub returns-then-names_objects_of-clause-reads_held : goal.returns-then-names_objects_of-clause-reads_held
returns-then-names_objects_of-clause-reads_held c = holds_from c.self.view_is c.self.invariant.held

pub returns-clause-shows : goal.returns-clause-shows
returns-clause-shows c =
    told_map c.in_ok-objects.objects
    (λ objects held.
    shows_beneath c.args.class objects.value c.self.view_is c.whole_beneath.ensures.only
    (λ key. ap (λ es. changes es (object_cell c.args.class key)) (sym c.deref.ensures) ∙ c.names_objects_of.ensures.leaves c.if-names_objects_of.false key) held)
    c.in_ok-objects.ensures.held
