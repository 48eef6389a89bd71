use Rattle.std.proofs.Common.{[], Some, drop, map}
use Rattle.std.specs.List.{flat_map}
use Rattle.hp_model.specs.State.{Objects}
use Rattle.hp_value.specs.Mapped as value
use Rattle.hp_query.specs.Looks.{ObjectsRise, entry_classes}
use Rattle.hp_query.specs.Mapped as mapped
use Rattle.hp_query.proofs.TurnLemmas.{AsksLeft}
use Rattle.hp_query.proofs.VerdictLemmas.{Continues}
use Rattle.hp_query.proofs.condition.evaluate_condition.Given as goal

-- the look was asked about the classes so far; what was found so far, and the entries that are left, make the verdict in each world that the look allows
abbrev pub invariant-loop-entry : goal.invariant-loop-entry
invariant-loop-entry g l = record {
  on : g.L.Look.goes_on l.fn.look l.look;
  asked : AsksLeft g.L.Look.asks (flat_map entry_classes (map mapped.entry l.entries))
      (flat_map entry_classes (map mapped.entry (drop l.entry-index l.entries))) l.fn.look l.look;
  continues : (world : Objects) → ObjectsRise world → g.L.Look.allows l.look world
      → Continues world (record { occurrence = Some (value.occurrence l.occurrence); rows = []; values = []; now = l.time })
      (map mapped.entry l.entries) (mapped.findings l.found) (map mapped.entry (drop l.entry-index l.entries));
}
