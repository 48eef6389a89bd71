use Rattle.std.proofs.Common.{◌≡◌, [], length, drop, map}
use Rattle.hp_model.specs.Occurrences.{Primitive}
use Rattle.hp_model.specs.Idle.{idle_from}
use Rattle.hp_rule.specs.Statements.{rule}
use Rattle.hp_rule.specs.Index.{noted_from}
use Rattle.hp_rule.specs.RuleLists.{listed}
use Rattle.hp_rule.specs.Libraries as libraries
use Rattle.hp_analysis.specs.Listeners.{may_end}
use Rattle.hp_analysis.specs.Installed.{with_only}
use Rattle.hp_analysis.specs.Reached.{has}
use Rattle.hp_analysis.proofs.listeners.listeners_of.Given as goal

-- the lists so far, with the rules to come, are those of all rules
abbrev pub invariant-loop-n : goal.invariant-loop-n
invariant-loop-n l =
    let library = libraries.library l.library in
    (p : Primitive) → noted_from (λ e. may_end e p) l.n (listed l.listeners p) (idle_from (has l.present) (length library.classes) l.n (map rule (drop l.n l.rule-items)))
    ≡ noted_from (λ e. may_end e p) 0 [] (with_only l.present library).rules
