use Rattle.std.proofs.Common.{Some}
use Rattle.hp_analysis.specs.Bases as bases
use Rattle.hp_analysis.specs.Knowledge.{AreKnown}
use Rattle.hp_analysis.specs.Places.{columns}
use Rattle.hp_analysis.proofs.kinds.known.known_of.Given as goal

abbrev pub invariant-loop-asked : goal.invariant-loop-asked
invariant-loop-asked l = AreKnown (bases.library l.base) (bases.declared l.base) (Some (columns l.columns)) l.known.items
