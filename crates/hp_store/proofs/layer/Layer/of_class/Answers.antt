use Rattle.std.proofs.Common.{map, ap, ◌∙◌, subst}
use Rattle.std.specs.declared.ops.Bound.TheVariants.{Included}
use Rattle.std.specs.BTreeMap.Range.{entries_between}
use Rattle.hp_store.specs.Changes.{class_entries, KeysFit}
use Rattle.hp_store.specs.Keys.{KeysRise}
use Rattle.hp_store.specs.Mapped.{entry}
use Rattle.hp_store.proofs.Cells.{cell_cmp}
use Rattle.hp_store.proofs.Entered.{fit-class}
use Rattle.hp_store.proofs.Ranged.{class_range, class_rise}
use Rattle.hp_store.proofs.layer.Layer.of_class.Goals as goal

pub returns-clause-entries : goal.returns-clause-entries
returns-clause-entries c =
    let es = c.self.inside.changes.entries in
    ap (map entry) (c.range.ensures.between c.new.ensures.exhausted ∙ (λ i. entries_between cell_cmp (Included (c.new.ensures.start i)) (Included (c.new.ensures.end i)) es))
    ∙ class_range c.args.class es c.self.invariant.0 ∙ ap (class_entries c.args.class) c.self.view_is

pub returns-clause-rise : goal.returns-clause-rise
returns-clause-rise c = subst (λ es. KeysRise (class_entries c.args.class es)) c.self.view_is (class_rise c.args.class c.self.inside.changes.entries c.range.ensures.ordered)

pub returns-clause-fit : goal.returns-clause-fit
returns-clause-fit c = fit-class c.args.class c.args.self.now (subst KeysFit c.self.view_is c.self.invariant.0)
