use Rattle.std.proofs.Common.{◌≡◌, ◌≤◌, ℕ, nat_lt, false, ◌&&◌}
use Rattle.hp_analysis.specs.Graphs.{seen}
use Rattle.hp_analysis.specs.Sets.{is_within}
use Rattle.hp_analysis.specs.Tables.{within}
use Rattle.hp_analysis.proofs.graph.Graph.depth_from.Given as goal

-- the table of k, and some chain from the set has more than k firings
abbrev pub invariant-loop-k : goal.invariant-loop-k
invariant-loop-k l =
    let library = seen l.self.triggers in
    (l.table.items ≡ within library l.k) × ((j : ℕ) → j ≤ l.k → (nat_lt 0 j && is_within (within library j) l.set) ≡ false)
