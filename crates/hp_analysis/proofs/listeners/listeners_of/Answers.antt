use Rattle.std.proofs.Common.{rules, ◌≡◌, sym, ap, ◌∙◌, [], drop, map, length}
use Rattle.std.proofs.lemmas.List.{drop_all}
use Rattle.hp_model.specs.Idle.{idle_from}
use Rattle.hp_rule.specs.Statements.{rule}
use Rattle.hp_rule.specs.Index.{noted_from}
use Rattle.hp_rule.specs.RuleLists.{listed}
use Rattle.hp_rule.specs.Libraries as libraries
use Rattle.hp_analysis.specs.Listeners.{may_end}
use Rattle.hp_analysis.specs.Installed.{with_only}
use Rattle.hp_analysis.specs.Reached.{has}
use Rattle.hp_rule.proofs.Numbers.{noted_are}
use Rattle.hp_analysis.proofs.listeners.listeners_of.Goals as goal

pub returns : goal.returns
returns c = λ p.
    let library = libraries.library c.args.library.now in
    let present = c.args.present.now in
    let none : drop c.loop-n.n c.rules-rule-items.result.now ≡ [] = search (rules, drop_all) in
    ap (λ rs. noted_from (λ e. may_end e p) c.loop-n.n (listed c.loop-n.listeners p) (idle_from (has present) (length library.classes) c.loop-n.n (map rule rs))) (sym none)
    ∙ c.loop-n.invariant p ∙ noted_are (λ e. may_end e p) (with_only present library).rules
