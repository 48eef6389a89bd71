use Rattle.std.proofs.Common.{ap, sym, subst, ◌∙◌}
use Rattle.hp_store.specs.Changes.{changes}
use Rattle.hp_store.specs.declared.base.Base.{Base}
use Rattle.hp_store.specs.Indexed.{AreComplete}
use Rattle.hp_store.specs.Tables.{base_cells}
use Rattle.hp_store.proofs.Layered.{unnamed_each}
use Rattle.hp_store.proofs.Stacked.{taken_more, taken_nothing}
use Rattle.hp_store.proofs.snapshot.merge_each.Goals.{in-Some+in_ok-take_in, in_default}
use Rattle.hp_store.proofs.snapshot.merge_each.Goals as goal

pub returns-in_err-take_in-clause-others : goal.returns-in_err-take_in-clause-others
returns-in_err-take_in-clause-others c = λ q none.
    c.in_err-take_in.ensures.others q (ap (λ l. changes l q) c.in-Some.ensures ∙ unnamed_each c.args.layers.now c.loop-shared.shared-index c.shared-item.result
    q c.loop-shared-test.true c.shared-item.is none)
    ∙ c.loop-shared.invariant.others q none

pub loop-shared-preserved : goal.loop-shared-preserved
loop-shared-preserved c = elim c.match-layer.branch [
  | in-Some+in_ok-take_in w ↦ record {
    so_far = λ q.
        ap (λ b. base_cells b q) w.base-is
        ∙ taken_more c.args.base.now c.loop-shared.base w.take_in.new.self c.args.layers.now c.loop-shared.shared-index c.shared-item.result w.in-Some.layer.now
        c.loop-shared-test.true c.shared-item.is
        w.in-Some.ensures c.loop-shared.invariant.so_far w.in_ok-take_in.ensures.ok q;
    others = λ q none.
        ap (λ b. base_cells b q) w.base-is
        ∙ w.in_ok-take_in.ensures.others q (ap (λ l. changes l q) w.in-Some.ensures ∙ unnamed_each c.args.layers.now c.loop-shared.shared-index
        c.shared-item.result q c.loop-shared-test.true c.shared-item.is none)
        ∙ c.loop-shared.invariant.others q none;
    complete = λ all. subst (λ (b : Base). AreComplete (base_cells b) b.indexes.items) (sym w.base-is) (w.in_ok-take_in.ensures.complete (c.loop-shared.invariant.complete all));
  }
  | in_default w ↦ record {
    so_far = λ q.
        ap (λ b. base_cells b q) w.base-is ∙ c.loop-shared.invariant.so_far q
        ∙ taken_nothing c.args.base.now c.args.layers.now c.loop-shared.shared-index c.shared-item.result c.loop-shared-test.true c.shared-item.is w.in_default.ensures q;
    others = λ q none. ap (λ b. base_cells b q) w.base-is ∙ c.loop-shared.invariant.others q none;
    complete = λ all. subst (λ (b : Base). AreComplete (base_cells b) b.indexes.items) (sym w.base-is) (c.loop-shared.invariant.complete all);
  }
]
