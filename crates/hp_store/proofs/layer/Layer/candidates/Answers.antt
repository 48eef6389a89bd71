use Rattle.std.proofs.Common.{map, sym, subst}
use Rattle.hp_model.specs.Cells.{over}
use Rattle.hp_value.specs.Mapped.{class_part}
use Rattle.hp_store.specs.Changes.{Entries, changes}
use Rattle.hp_store.specs.Indexed.{AreComplete}
use Rattle.hp_store.specs.Mapped.{entry}
use Rattle.hp_store.specs.Parts.{Covers, is_among, keys_left, no_cells}
use Rattle.hp_store.proofs.layer.Layer.candidates.Goals as goal

pub returns-in-Some : goal.returns-in-Some
returns-in-Some c =
    subst (λ (es : Entries). Covers (is_among (keys_left c.in-Some.keys)) (class_part c.args.part.now) c.args.class (over no_cells (changes es))) c.self.view_is
    (c.in-Some.ensures (over no_cells (changes (map entry c.self.inside.changes.entries)))
    (subst (AreComplete (over no_cells (changes (map entry c.self.inside.changes.entries)))) (sym c.deref.ensures.value) c.self.invariant.1))
