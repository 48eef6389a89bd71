use Rattle.std.proofs.Common.{◌≡◌, ◌-◌, ◌++◌, ◌∙◌, take, drop, length, ap, subst, true, to_z, of_z, w64, rules, arith}
use Rattle.std.proofs.lemmas.List.{take_rest, length-map}
use Rattle.hp_model.specs.Values as model
use Rattle.hp_store.specs.Kept.{MakesObjects}
use Rattle.hp_store.specs.Mapped.{change}
use Rattle.hp_store.proofs.Overlaid.{walks_first, walks_on, walks_other, walks_last, tells_first, tells_next}
use Rattle.hp_store.proofs.layer.Layer.objects_over.Goals as goal

pub loop-cell-init : goal.loop-cell-init
loop-cell-init c = record {
  within = omega arith;
  walks = λ base are.
      walks_first base c.args.class c.args.objects.now c.new-merged.result c.args.self.now c.of_class-cell-items.result c.into_iter-cell-iterator.result
      c.of_class-cell-items.ensures.rise c.of_class-cell-items.ensures.fit c.of_class-cell-items.ensures.entries c.into_iter-cell-iterator.ensures.into_iter_gives c.new-merged.ensures are;
  tells =
      tells_first c.args.class c.args.self.now c.of_class-cell-items.result c.into_iter-cell-iterator.result c.of_class-cell-items.ensures.rise c.of_class-cell-items.ensures.entries
      c.into_iter-cell-iterator.ensures.into_iter_gives;
}

pub loop-cell-preserved-in-Object : goal.loop-cell-preserved-in-Object
loop-cell-preserved-in-Object c =
    let done : c.in_ok-add_changed.field-0 ≡ true = search rules in
    let made = subst (λ os. MakesObjects os (to_z w64 (of_z w64 c.in-Object.key)) (change c.in-Some.change.now) c.add_changed.new.list) c.in_ok-extend.ensures
    (c.in_ok-add_changed.ensures.made done) in
    record {
      within = c.places-end.ensures.bound;
      walks = λ base are.
          walks_on base c.args.class c.args.objects.now c.args.self.now c.loop-cell.merged c.loop-cell.from c.loop-cell.cell-iterator c.next.new.self
          c.in-Some.cell.now c.in-Some.change.now c.in-Object.field-0 c.in-Object.key
          (c.loop-cell.invariant.walks base are) c.in-Some.ensures.steps c.in-Object.is c.keys-keys.result.now (c.places-end.result.0 - c.loop-cell.from)
          c.places-end.result.1 c.add_changed.new.list c.keys-keys.ensures
          c.places-end.ensures.below c.places-end.ensures.above made;
      tells = tells_next c.args.class c.args.self.now c.loop-cell.cell-iterator c.next.new.self c.in-Some.cell.now c.in-Some.change.now c.loop-cell.invariant.tells c.in-Some.ensures.steps;
    }

pub loop-cell-preserved : goal.loop-cell-preserved
loop-cell-preserved c = record {
  within = c.loop-cell.invariant.within;
  walks = λ base are.
      walks_other base c.args.class c.args.objects.now c.args.self.now c.loop-cell.merged c.loop-cell.from c.loop-cell.cell-iterator c.next.new.self c.in-Some.cell.now c.in-Some.change.now
      (c.loop-cell.invariant.walks base are) c.in-Some.ensures.steps c.in_default.not-Object;
  tells = tells_next c.args.class c.args.self.now c.loop-cell.cell-iterator c.next.new.self c.in-Some.cell.now c.in-Some.change.now c.loop-cell.invariant.tells c.in-Some.ensures.steps;
}

pub returns-clause-merged : goal.returns-clause-merged
returns-clause-merged c = λ base are.
    let objects = c.args.objects.now in
    let last : c.extend-2.new.self ≡ c.loop-cell.merged ++ drop c.loop-cell.from objects =
    c.in_ok-extend-2.ensures ∙ ap (λ n. c.loop-cell.merged ++ take (n - c.loop-cell.from) (drop c.loop-cell.from objects)) (ap length c.keys-keys.ensures
    ∙ length-map objects (λ (o : model.KeyedRow). o.key))
    ∙ ap (λ l. c.loop-cell.merged ++ l) (take_rest objects c.loop-cell.from) in
    walks_last base c.args.class objects c.loop-cell.merged c.extend-2.new.self c.args.self.now c.loop-cell.from c.loop-cell.cell-iterator c.of_class-cell-items.ensures.rise
    c.in-None.ensures.steps.0 last are
    (c.loop-cell.invariant.walks base are)
