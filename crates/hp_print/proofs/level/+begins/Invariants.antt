use Rattle.hp_print.proofs.level.+begins.Given as goal

abbrev pub decreases-begins : goal.decreases-begins
decreases-begins l = l.levels
