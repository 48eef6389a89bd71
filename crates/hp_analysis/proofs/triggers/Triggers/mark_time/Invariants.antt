use Rattle.std.proofs.Common.{◌≡◌, length, map, drop}
use Rattle.hp_model.specs.Occurrences.{moment_reached}
use Rattle.hp_model.specs.Chains.{triggers_from}
use Rattle.hp_model.specs.Idle.{idle_from}
use Rattle.hp_rule.specs.Statements.{rule}
use Rattle.hp_analysis.specs.Graphs.{seen}
use Rattle.hp_analysis.specs.Sets.{marked}
use Rattle.hp_analysis.specs.Reached.{has}
use Rattle.hp_analysis.proofs.triggers.Triggers.mark_time.Given as goal

-- the rest of the rules are still to be tested
abbrev pub invariant-loop-n : goal.invariant-loop-n
invariant-loop-n l =
    marked (triggers_from l.n (idle_from (has l.self.present.items) (length (seen l.self).classes) l.n (map rule (drop l.n l.rule-items))) (moment_reached l.time)) l.set.items
    ≡ marked (triggers_from 0 (seen l.self).rules (moment_reached l.time)) l.initial.set.items
