use Rattle.std.proofs.Common.{◌≡◌, ◌+◌, ◌-◌, ◌≤◌, ◌<◌, ap, sym, ◌∙◌, subst, arith, length, map, suc}
use Rattle.std.proofs.lemmas.List.{length-map}
use Rattle.hp_model.specs.Cells.{over}
use Rattle.hp_store.specs.Changes.{changes_in, class_entries}
use Rattle.hp_store.specs.Counts.{one_if}
use Rattle.hp_store.specs.Mapped.{entry}
use Rattle.hp_store.specs.Tables.{base_cells}
use Rattle.hp_store.proofs.Counted.{recounts_first, recounts_next, class_count, no_more}
use Rattle.hp_store.proofs.counting.recounted.Goals as goal

pub loop-cell-init : goal.loop-cell-init
loop-cell-init c =
    let shown = ap (map entry) c.into_iter-cell-iterator.ensures.into_iter_gives ∙ c.of_class-cell-items.ensures.entries in
    let long = sym (length-map c.into_iter-cell-iterator.result entry) ∙ ap length shown in
    record {
      counts =
          recounts_first (over (base_cells c.args.base.now) (changes_in c.args.layers.now)) c.args.class c.args.more.now c.args.before (map entry c.into_iter-cell-iterator.result) shown
          c.of_class-cell-items.ensures.rise c.requires.counted;
      few = omega (arith, long);
    }

pub changed_by-number-requires : goal.changed_by-number-requires
changed_by-number-requires c =
    omega (arith, c.loop-cell.invariant.few, class_count c.args.class c.args.more.now, c.len-most.ensures.number, c.len-most.ensures.few, c.requires.few)

pub loop-cell-preserved : goal.loop-cell-preserved
loop-cell-preserved c =
    let long = ap length c.in-Some.ensures.steps in
    record {
      counts =
          recounts_next (over (base_cells c.args.base.now) (changes_in c.args.layers.now)) c.args.class c.args.more.now c.loop-cell.number c.changed_by-number.result
          c.loop-cell.cell-iterator c.next.new.self
          c.in-Some.cell.now c.in-Some.change.now c.is_there.result c.loop-cell.invariant.counts c.in-Some.ensures.steps c.is_there.ensures
          (subst (λ b. c.changed_by-number.result ≡ c.loop-cell.number + one_if b - one_if c.is_there.result) c.is_some.ensures c.changed_by-number.ensures);
      few = omega (arith, long, c.loop-cell.invariant.few, c.changed_by-number.ensures, no_more c.loop-cell.number c.is_some.result c.is_there.result);
    }

pub returns-clause-few : goal.returns-clause-few
returns-clause-few c =
    omega (arith, c.loop-cell.invariant.few, class_count c.args.class c.args.more.now, c.len-most.ensures.number, c.len-most.ensures.few)
