use Rattle.hp_analysis.proofs.kinds.infer.arguments.Arguments.find_first.Given as goal

abbrev pub decreases-loop-argument : goal.decreases-loop-argument
decreases-loop-argument l = l.first
