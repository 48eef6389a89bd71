use Rattle.std.proofs.Common.{ap, sym, subst, ◌∙◌, ◌∷◌, [], ◌++◌, map, append_assoc}
use Rattle.hp_model.specs.Cells.{Holds}
use Rattle.hp_model.proofs.BridgesCells.{Holds-back, Holds-head}
use Rattle.hp_store.specs.Stack.{cells_in}
use Rattle.hp_view.specs.Mapped.{read}
use Rattle.hp_top.proofs.unit.keep_lists.Goals as goal

pub keep_list-requires : goal.keep_list-requires
keep_list-requires c =
    let passed = c.loop-seen.invariant.passed in
    let split = c.loop-seen.invariant.split ∙ ap (λ rest. passed ++ rest) (ap (map read) c.in-Some.ensures.steps) in
    let held = subst (λ s. Holds (cells_in s) c.args.reads.now) (sym c.loop-seen.invariant.same) c.requires in
    Holds-head (Holds-back _ passed _ (subst (Holds (cells_in c.loop-seen.store)) split held))

pub loop-seen-preserved : goal.loop-seen-preserved
loop-seen-preserved c =
    let passed = c.loop-seen.invariant.passed in
    let one = read (c.in-Some.seen.now, c.in-Some.found.now) in
    record {
      passed = passed ++ one ∷ [];
      split = c.loop-seen.invariant.split ∙ ap (λ rest. passed ++ rest) (ap (map read) c.in-Some.ensures.steps) ∙ sym (append_assoc passed (one ∷ []) _);
      same = c.keep_list.ensures ∙ c.loop-seen.invariant.same;
    }
