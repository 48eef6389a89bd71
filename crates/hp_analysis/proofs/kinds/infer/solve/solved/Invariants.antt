use Rattle.std.proofs.Common.{◌≡◌}
use Rattle.hp_analysis.specs.Declarations.{declared, Keeps}
use Rattle.hp_analysis.proofs.kinds.infer.solve.solved.Given as goal

-- what is given is kept
abbrev pub invariant-loop-name : goal.invariant-loop-name
invariant-loop-name l = Keeps (declared l.fn.given) (declared l.declaration) × ((declared l.declaration).fired ≡ (declared l.fn.given).fired)
