use Rattle.std.proofs.Common.{ap, sym, ◌∙◌, ◌++◌, ◌∷◌, [], to_z, of_z, w64}
use Rattle.hp_store.proofs.Merging.{merges_first, merges_value, merges_none, merges_other, merges_last, keys_kept, keys_found}
use Rattle.hp_store.proofs.layer.Layer.keys_over.Goals as goal

pub returns-then-not-names_objects_of : goal.returns-then-not-names_objects_of
returns-then-not-names_objects_of c = λ base.
    keys_kept base c.args.class c.args.keys.items c.args.self.now (c.names_objects_of.ensures.none.0 c.if-not-names_objects_of.true)

pub loop-cell-init : goal.loop-cell-init
loop-cell-init c =
    merges_first c.args.keys.items c.in_ok-merged.merged.items c.as_slice-rest.result.now _ c.of_class-cell-items.result c.into_iter-cell-iterator.result
    c.requires c.of_class-cell-items.ensures.fit c.of_class-cell-items.ensures.entries c.into_iter-cell-iterator.ensures.into_iter_gives c.in_ok-merged.ensures.items c.as_slice-rest.ensures.value

pub around-requires : goal.around-requires
around-requires c = c.loop-cell.invariant.rise

pub loop-cell-preserved-in_ok-push : goal.loop-cell-preserved-in_ok-push
loop-cell-preserved-in_ok-push c =
    merges_value _ c.loop-cell.merged.items c.loop-cell.rest.now c.loop-cell.cell-iterator c.next.new.self c.in-Some.cell.now c.in-Some.change.now c.in-Object.field-0 c.in-Object.key
    c.loop-cell.invariant c.in-Some.ensures.steps c.in-Object.is c.around.result.0.now c.around.result.1.now c.push.new.self.items (sym c.is_some.ensures ∙ c.if-is_some.true) c.around.ensures.below
    c.around.ensures.above (c.in_ok-push.ensures.items ∙ ap (λ l. l ++ to_z w64 (of_z w64 c.in-Object.key) ∷ []) c.in_ok-extend_from_slice.ensures.items)

pub loop-cell-preserved-else-is_some : goal.loop-cell-preserved-else-is_some
loop-cell-preserved-else-is_some c =
    merges_none _ c.loop-cell.merged.items c.loop-cell.rest.now c.loop-cell.cell-iterator c.next.new.self c.in-Some.cell.now c.in-Some.change.now c.in-Object.field-0 c.in-Object.key
    c.loop-cell.invariant c.in-Some.ensures.steps c.in-Object.is c.around.result.0.now c.around.result.1.now c.extend_from_slice.new.self.items (sym c.is_some.ensures ∙ c.if-is_some.false)
    c.around.ensures.below c.around.ensures.above c.in_ok-extend_from_slice.ensures.items

pub loop-cell-preserved : goal.loop-cell-preserved
loop-cell-preserved c =
    merges_other _ c.loop-cell.merged.items c.loop-cell.rest.now c.loop-cell.cell-iterator c.next.new.self c.in-Some.cell.now c.in-Some.change.now
    c.loop-cell.invariant c.in-Some.ensures.steps c.in_default.not-Object

pub returns : goal.returns
returns c = λ base.
    keys_found base c.args.class c.args.keys.items c.extend_from_slice-2.new.self.items c.args.self.now
    (merges_last _ c.loop-cell.merged.items c.loop-cell.rest.now c.extend_from_slice-2.new.self.items c.loop-cell.cell-iterator c.loop-cell.invariant
    c.in-None.ensures.steps.0 c.in_ok-extend_from_slice-2.ensures.items)
    c.of_class-cell-items.ensures.rise
