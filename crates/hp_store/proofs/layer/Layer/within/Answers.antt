use Rattle.std.proofs.Common.{◌≡◌, ◌∙◌, to_z, of_z, w64, rules}
use Rattle.std.specs.declared.ops.Bound.TheVariants.{Included}
use Rattle.std.specs.BTreeMap.Range.{entries_between}
use Rattle.hp_value.specs.declared.cell.Cell.TheVariants.{Object}
use Rattle.hp_value.specs.Mapped.{class_part}
use Rattle.hp_store.proofs.Cells.{cell_cmp}
use Rattle.hp_store.proofs.Covered.{covers_layer}
use Rattle.hp_store.proofs.layer.Layer.within.Goals as goal

pub returns : goal.returns
returns c =
    let least : to_z w64 (of_z w64 c.least_from-least.result) ≡ c.least_from-least.result = search rules in
    let greatest : to_z w64 (of_z w64 c.greatest_up_to-greatest.result) ≡ c.greatest_up_to-greatest.result = search rules in
    covers_layer (class_part c.args.part.now) c.args.class c.key_bounds-low.result.0 c.key_bounds-low.result.1 c.least_from-least.result c.greatest_up_to-greatest.result
    c.self.inside.changes.entries c.range.result
    c.args.self.now c.self.view_is c.self.invariant.0 c.key_bounds-low.ensures c.least_from-least.ensures c.greatest_up_to-greatest.ensures.up_to
    (c.range.ensures.between c.new.ensures.exhausted ∙ (λ i. entries_between cell_cmp (Included (c.new.ensures.start i)) (Included (c.new.ensures.end i)) c.self.inside.changes.entries)
    ∙ (λ i. entries_between cell_cmp (Included (Object c.args.class (least i))) (Included (Object c.args.class (greatest i))) c.self.inside.changes.entries))
