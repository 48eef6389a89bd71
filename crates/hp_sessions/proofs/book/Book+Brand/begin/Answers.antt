use Rattle.std.proofs.Common.{rules, ◌≡◌, ◌∙◌, subst, sym}
use Rattle.hp_model.specs.Sessions.{HasFitState}
use Rattle.hp_rule.specs.Mapped as rule
use Rattle.hp_store.specs.Stack.{cells_in}
use Rattle.hp_sessions.proofs.Moves.{begins}
use Rattle.hp_sessions.proofs.book.Book+Brand.begin.Goals as goal

pub of_words-requires : goal.of_words-requires
of_words-requires c = begins

pub invariant_of-result : goal.invariant_of-result
invariant_of-result c =
    let is : c.args.store ≡ c.in_ok-opening.opening = sym (c.in_ok-opening.ensures ∙ c.keep_indexes.ensures) in
    (subst (λ s. HasFitState (rule.library c.args.library.value) (cells_in s)) is c.requires, search rules, search rules, search rules, sym c.in_ok-opening.ensures)
