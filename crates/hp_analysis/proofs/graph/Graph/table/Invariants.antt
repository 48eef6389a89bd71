use Rattle.std.proofs.Common.{◌≡◌}
use Rattle.hp_analysis.specs.Graphs.{seen}
use Rattle.hp_analysis.specs.Tables.{within}
use Rattle.hp_analysis.proofs.graph.Graph.table.Given as goal

abbrev pub invariant-loop-k : goal.invariant-loop-k
invariant-loop-k l = l.table.items ≡ within (seen l.self.triggers) l.k
