use Rattle.std.proofs.Common.{◌≡◌, drop}
use Rattle.std.specs.List.{list_all}
use Rattle.hp_model.specs.Cells.{over}
use Rattle.hp_value.specs.Mapped.{class_part, keyed_row}
use Rattle.hp_store.specs.Changes.{changes}
use Rattle.hp_store.specs.Parts.{is_shown}
use Rattle.hp_store.specs.Stack.{cells_in}
use Rattle.hp_store.proofs.snapshot.Snapshot.shows_each.Given as goal

abbrev pub invariant-loop-object : goal.invariant-loop-object
invariant-loop-object l =
    list_all (λ object. is_shown (over (cells_in l.self) (changes l.writes)) (class_part l.part) l.class (keyed_row object)) (drop l.object-index l.objects)
    ≡ list_all (λ object. is_shown (over (cells_in l.self) (changes l.writes)) (class_part l.part) l.class (keyed_row object)) l.objects
