use Rattle.std.proofs.Common.{◌≡◌, drop}
use Rattle.hp_model.specs.Chains.{body_triggers}
use Rattle.hp_rule.specs.Statements.{body_in}
use Rattle.hp_analysis.specs.Graphs.{seen}
use Rattle.hp_analysis.specs.Sets.{marked}
use Rattle.hp_analysis.proofs.triggers.Triggers.+statement.Given as goal

-- the rest of the body is still to be added
abbrev pub invariant-mark_body-loop-s : goal.invariant-mark_body-loop-s
invariant-mark_body-loop-s l =
    let library = seen l.self in
    marked (body_triggers library (body_in (drop l.s-index l.body))) l.set.items ≡ marked (body_triggers library (body_in l.body)) l.initial.set.items
