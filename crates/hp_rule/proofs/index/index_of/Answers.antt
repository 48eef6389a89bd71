use Rattle.std.proofs.Common.{rules, ◌≡◌, sym, ap, ◌∙◌, [], drop, map}
use Rattle.std.proofs.lemmas.List.{drop_all}
use Rattle.hp_rule.specs.Statements.{rule}
use Rattle.hp_rule.specs.Index.{may_mention, noted_from}
use Rattle.hp_rule.specs.RuleLists.{listed}
use Rattle.hp_rule.proofs.Numbers.{noted_are}
use Rattle.hp_rule.proofs.index.index_of.Goals as goal

pub returns : goal.returns
returns c = λ p.
    let none : drop c.loop-n.n c.args.rules.now ≡ [] = search (rules, drop_all) in
    ap (λ rs. noted_from (λ e. may_mention e p) c.loop-n.n (listed c.loop-n.index p) (map rule rs)) (sym none)
    ∙ c.loop-n.invariant p ∙ noted_are (λ e. may_mention e p) (map rule c.args.rules.now)
