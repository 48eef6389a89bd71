use Rattle.std.proofs.Common.{◌≡◌, drop}
use Rattle.hp_rule.specs.Statements.{body_in}
use Rattle.hp_analysis.specs.Guards.{body_vetoes}
use Rattle.hp_analysis.proofs.guards.+vetoing.Given as goal

-- the rest vetoes if the whole body does
abbrev pub invariant-may_veto-loop-s : goal.invariant-may_veto-loop-s
invariant-may_veto-loop-s l = body_vetoes (body_in (drop l.s-index l.body)) ≡ body_vetoes (body_in l.body)
