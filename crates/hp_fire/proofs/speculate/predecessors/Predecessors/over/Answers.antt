use Rattle.std.proofs.Common.{rules, sym, ap, ◌∙◌, ◌≡◌, []}
use Rattle.std.proofs.lemmas.Result.{IfOk-weaker}
use Rattle.hp_model.specs.Cells.{over}
use Rattle.hp_store.specs.Changes.{changes}
use Rattle.hp_store.specs.Stack.{cells_in}
use Rattle.hp_fire.proofs.Posted.{over_none}
use Rattle.hp_fire.proofs.speculate.predecessors.Predecessors.over.Goals as goal

pub returns-then-is_empty : goal.returns-then-is_empty
returns-then-is_empty c =
    let below = over (cells_in c.args.snapshot.now) (changes c.args.self.now.layer.value) in
    let start : cells_in c.in_ok-start.start ≡ below = c.in_ok-start.ensures ∙ ap (λ l. over (cells_in c.args.snapshot.now) (changes l)) c.in_ok-try_clone.ensures in
    let empty : c.args.later ≡ [] = search rules in
    start ∙ sym (over_none below (changes c.args.later) (ap changes empty))

pub returns : goal.returns
returns c =
    let start = c.in_ok-start.ensures ∙ ap (λ l. over (cells_in c.args.snapshot.now) (changes l)) c.in_ok-try_clone.ensures in
    IfOk-weaker c.with_layer-2.result _ _ (λ s is.
    is ∙ ap (λ l. over (cells_in c.in_ok-start.start) (changes l)) c.in_ok-new.ensures.ok ∙ ap (λ below. over below (changes c.args.later)) start) c.with_layer-2.ensures
