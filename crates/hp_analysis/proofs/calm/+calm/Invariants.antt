use Rattle.std.proofs.Common.{◌≡◌, drop}
use Rattle.hp_rule.specs.Statements.{body_in}
use Rattle.hp_model.specs.Kinds as K
use Rattle.hp_analysis.proofs.calm.+calm.Given as goal

-- the rest is calm as the whole body is
abbrev pub invariant-is_body_calm-loop-s : goal.invariant-is_body_calm-loop-s
invariant-is_body_calm-loop-s l = K.is_body_calm (body_in (drop l.s-index l.body)) ≡ K.is_body_calm (body_in l.body)
