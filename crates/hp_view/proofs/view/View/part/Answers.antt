use Rattle.std.proofs.Common.{subst, map}
use Rattle.hp_model.specs.Cells.{over, ArePart}
use Rattle.hp_value.specs.Mapped.{class_part, keyed_row}
use Rattle.hp_store.specs.Changes.{changes}
use Rattle.hp_store.specs.Stack.{cells_in}
use Rattle.hp_store.proofs.Wholes.{told_some}
use Rattle.hp_view.specs.Seeing.{now_in}
use Rattle.hp_view.proofs.Reading.{holds_from}
use Rattle.hp_view.proofs.view.View.part.Goals as goal

pub returns-in_default-clause-reads_held : goal.returns-in_default-clause-reads_held
returns-in_default-clause-reads_held c = holds_from c.self.view_is c.self.invariant.held

pub returns-then-branch-clause-shows : goal.returns-then-branch-clause-shows
returns-then-branch-clause-shows c =
    let p = class_part c.args.part.now in
    let objects = map keyed_row c.in-Some.objects.items in
    let are = told_some (λ objects. ArePart (over (cells_in c.self.inside.base) (changes c.deref.result.now)) c.args.class p (map keyed_row objects.items)) c.in-Some.is c.in_ok-objects.ensures.part in
    c.in_ok-read_part.ensures.shows c.if-branch.true objects
    (subst (λ u. ArePart (now_in u) c.args.class p objects) c.self.view_is (subst (λ es. ArePart (over (cells_in c.self.inside.base) (changes es)) c.args.class p objects) c.deref.ensures are))
