use Rattle.std.proofs.Common.{rules, ◌≡◌, sym, ap, ◌∙◌, ℕ, Bool, [], ◌++◌, drop, filter, append-nil}
use Rattle.std.proofs.lemmas.List.{drop_all}
use Rattle.hp_value.specs.Mapped.{primitive}
use Rattle.hp_rule.specs.Mapped.{library}
use Rattle.hp_rule.specs.Mentions.{is_mentioned}
use Rattle.hp_rule.proofs.library.Library.mentions.Goals as goal

pub returns : goal.returns
returns c =
    let test : ℕ → Bool = is_mentioned (library c.args.self.now).rules (primitive c.args.prim.now) in
    let none : drop c.loop-number.number-index c.listed-listed.result.now ≡ [] = search (rules, drop_all) in
    sym (append-nil c.loop-number.numbers.items) ∙ ap (λ ns. c.loop-number.numbers.items ++ filter test ns) (sym none) ∙ c.loop-number.invariant
    ∙ c.listed-listed.ensures
