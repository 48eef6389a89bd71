use Rattle.std.proofs.Common.{subst, sym, refl, []}
use Rattle.hp_model.specs.Cells.{over}
use Rattle.hp_value.specs.Mapped.{class_part}
use Rattle.hp_store.specs.Changes.{Entries, changes}
use Rattle.hp_store.specs.Parts.{Covers, is_among, keys_left, no_cells}
use Rattle.hp_store.proofs.shared.SharedLayer.candidates.Goals as goal

pub returns-in-Some : goal.returns-in-Some
returns-in-Some c =
    subst (λ (es : Entries). Covers (is_among (keys_left c.candidates.result)) (class_part c.args.part.now) c.args.class (over no_cells (changes es))) c.in-Some.ensures c.candidates.ensures

pub returns-in-None : goal.returns-in-None
returns-in-None c =
    subst (λ (es : Entries). Covers (is_among []) (class_part c.args.part.now) c.args.class (over no_cells (changes es))) (sym c.in-None.ensures) (λ key out. refl)
