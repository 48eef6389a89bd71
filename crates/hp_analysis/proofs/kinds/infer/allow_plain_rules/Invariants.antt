use Rattle.std.proofs.Common.{◌≡◌}
use Rattle.hp_analysis.specs.Declarations.{declared, KeepsFired}
use Rattle.hp_analysis.proofs.kinds.infer.allow_plain_rules.Given as goal

-- the signatures are as before, and no rule is taken away
abbrev pub invariant-loop-rule : goal.invariant-loop-rule
invariant-loop-rule l = ((declared l.declaration).signatures ≡ (declared l.fn.declaration).signatures)
    × KeepsFired (declared l.fn.declaration) (declared l.declaration)
