use Rattle.std.proofs.Common.{◌≡◌, ap, ap₂, sym, ◌∙◌, ◌++◌}
use Rattle.std.specs.Option.{option_or}
use Rattle.std.proofs.lemmas.List.{take-append-drop}
use Rattle.hp_store.specs.Changes.{changes, changes_in}
use Rattle.hp_store.proofs.Layered.{changes_in-push, folded_over}
use Rattle.hp_store.proofs.shared.stacked.Goals as goal

pub returns-then-layers-lt-MOST_LAYERS-clause-changes : goal.returns-then-layers-lt-MOST_LAYERS-clause-changes
returns-then-layers-lt-MOST_LAYERS-clause-changes c = λ q. ap (λ ls. changes_in ls q) c.in_ok-stack-2.ensures ∙ changes_in-push c.args.layers.now c.args.layer.value q

pub returns-clause-changes : goal.returns-clause-changes
returns-clause-changes c =
    let split : c.args.layers.now ≡ c.split_at.result.0.now ++ c.split_at.result.1.now =
    sym (take-append-drop c.fold_from.result c.args.layers.now) ∙ ap₂ (λ a b. a ++ b) (sym c.split_at.ensures.front) (sym c.split_at.ensures.back) in
    let all : c.in_ok-one.one.value ≡ c.take_in.new.self = c.in_ok-one.ensures.ok ∙ c.keep_indexes.ensures in
    folded_over c.args.layers.now c.split_at.result.0.now c.split_at.result.1.now c.in_ok-stack-3.stack.items c.args.layer.value c.in_ok-one.one.value split c.in_ok-stack-3.ensures
    (λ q. ap (λ es. changes es q) all ∙ c.in_ok-take_in.ensures.ok q ∙ ap₂ option_or (ap (λ es. changes es q) c.deref-3.ensures) (c.in_ok-all.ensures q))
