use Rattle.std.proofs.Common.{◌≡◌, ◌∙◌, ap}
use Rattle.std.proofs.lemmas.Result.{on_ok_weaker}
use Rattle.hp_model.specs.Tree as T
use Rattle.hp_model.specs.Soundness.{Answer}
use Rattle.hp_model.specs.Answers.{ending_of}
use Rattle.hp_tree.specs.Mapped.{what, items_in}
use Rattle.hp_fire.specs.Mapped.{end}
use Rattle.hp_fire.proofs.closing.end_part.Goals as goal

pub returns : goal.returns
returns c = on_ok_weaker c.put.result (λ put outer a part.
    let left = c.in_ok-leave_tasks.ensures outer a part in
    let ends : end c.replace-how.result ≡ a.end = ap end c.replace-how.ensures.value ∙ ap (λ (x : Answer). x.end) left in
    let inside : items_in c.replace-items.result.items ≡ a.items = ap (λ is. items_in is.items) c.replace-items.ensures.value ∙ ap (λ (x : Answer). x.items) left in
    let before : items_in c.replace-items.new.dest.items ≡ outer.items = ap (λ is. items_in is.items) c.replace-items.ensures.after ∙ part.begun.items in
    put ∙ (λ i. record {
      end = end (c.replace-how.ensures.after i);
      queued = ap (λ (x : Answer). x.queued) left i;
      detached = ap (λ (x : Answer). x.detached) left i;
      items = T.append (before i) ((c.node_of.ensures ∙ (λ j. T.node (what c.args.what) (ending_of (ends j)) (inside j) T.no_items)) i);
    }))
    c.put.ensures
