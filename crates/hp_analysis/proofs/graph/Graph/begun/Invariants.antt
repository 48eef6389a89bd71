use Rattle.std.proofs.Common.{◌≡◌, map, drop, false}
use Rattle.hp_analysis.specs.Graphs.{seen}
use Rattle.hp_rule.specs.Mapped.{unit}
use Rattle.hp_analysis.specs.Sets.{begun}
use Rattle.hp_analysis.proofs.graph.Graph.begun.Given as goal

-- the rest of the units are still to be added
abbrev pub invariant-loop-unit : goal.invariant-loop-unit
invariant-loop-unit l =
    let library = seen l.self.triggers in
    begun library (map unit (drop l.unit-index l.units)) l.set.items ≡ begun library (map unit l.units) (map (λ r. false) library.rules)
