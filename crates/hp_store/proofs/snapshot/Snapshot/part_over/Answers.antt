use Rattle.std.proofs.Common.{List, ℤ, subst, sym}
use Rattle.hp_model.specs.Cells.{over}
use Rattle.hp_value.specs.Mapped.{class_part}
use Rattle.hp_store.specs.Changes.{changes}
use Rattle.hp_store.specs.Parts.{Covers, is_among}
use Rattle.hp_store.specs.Stack.{cells_in}
use Rattle.hp_store.proofs.Picked.{covers_wider}
use Rattle.hp_store.proofs.snapshot.Snapshot.part_over.Goals as goal

pub picked-requires-clause-covers : goal.picked-requires-clause-covers
picked-requires-clause-covers c =
    subst (λ (keys : List ℤ). Covers (is_among keys) (class_part c.args.part.now) c.args.class (over (cells_in c.args.self.now) (changes c.args.writes.now))) (sym c.deref.ensures.value)
    (covers_wider (is_among c.in-Some.keys.items) (is_among c.sort.new.keys.items) (class_part c.args.part.now) c.args.class (over (cells_in c.args.self.now) (changes c.args.writes.now))
    c.sort.ensures.kept
    (rw c.in-Some.is at c.in_ok-keys.ensures.covers))
