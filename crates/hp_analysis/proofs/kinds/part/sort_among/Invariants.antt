use Rattle.std.proofs.Common.{◌≡◌, drop}
use Rattle.hp_analysis.specs.Findings.{read_sort, sort_with, sort_among}
use Rattle.hp_analysis.specs.Kinded.{sort}
use Rattle.hp_analysis.specs.Places.{patterns}
use Rattle.hp_analysis.specs.Readings.{reading}
use Rattle.hp_rule.specs.Libraries as libraries
use Rattle.hp_analysis.specs.Declarations as declarations
use Rattle.hp_analysis.proofs.kinds.part.sort_among.Given as goal

-- what is known so far, and of the rest, is what is known of all
abbrev pub invariant-loop-other : goal.invariant-loop-other
invariant-loop-other l =
    sort_with (read_sort (libraries.library l.of) (declarations.declared l.declaration) (reading l.read)) (sort l.known) (patterns (drop l.other-index l.others))
    ≡ sort_among (read_sort (libraries.library l.of) (declarations.declared l.declaration) (reading l.read)) (patterns l.matching)
