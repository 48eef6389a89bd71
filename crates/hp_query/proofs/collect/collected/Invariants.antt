use Rattle.std.proofs.Common.{drop}
use Rattle.hp_model.specs.State.{Objects}
use Rattle.hp_query.specs.Looks.{ObjectsRise}
use Rattle.hp_query.proofs.CollectLemmas.{Collects}
use Rattle.hp_query.proofs.collect.collected.Given as goal

-- the objects of the first keys, in each world that the look allows
abbrev pub invariant-loop-key : goal.invariant-loop-key
invariant-loop-key g l = record {
  on : g.L.Look.goes_on l.fn.look l.look;
  asks : g.L.Look.asks l.class l.fn.look l.look;
  collects : (world : Objects) → ObjectsRise world → g.L.Look.allows l.look world → Collects l.class world (drop l.key-index l.key-items) l.objects;
}
