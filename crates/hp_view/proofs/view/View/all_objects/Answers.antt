use Rattle.hp_model.specs.Cells.{Cells, AreObjects, Holds}
use Rattle.hp_store.proofs.Wholes.{told_some}
use Rattle.hp_view.proofs.Wholes.{shows_over, told_map}
use Rattle.hp_view.proofs.view.View.all_objects.Goals as goal

pub returns-clause-shows : goal.returns-clause-shows
returns-clause-shows c =
    let held = told_some (λ objects. (base : Cells) → Holds base c.whole_beneath.new.self.reads → AreObjects base c.args.class objects.value) c.in-Some.is c.in_ok-under.ensures.held in
    told_map c.in_ok-objects.objects (λ objects over_them. shows_over c.args.class c.in-Some.under.value objects.value held over_them) c.in_ok-objects.ensures.objects
