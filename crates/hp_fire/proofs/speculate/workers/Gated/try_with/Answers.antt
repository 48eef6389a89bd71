use Rattle.std.proofs.Common.{rules}
use denote.Param.{param}
use denote.Param.Send.{IsSync, param_sync, sendable}
use denote.Ref.{NamedLft}
use Rattle.std.proofs.Crossing as heap
use Rattle.hp_fire.specs.contracts.engine.Engine as EngineRow
use Rattle.hp_fire.proofs.Sending.{engine_sync}
use Rattle.hp_fire.proofs.speculate.workers.Gated.try_with.Goals as goal

pub try_all-requires-sync-F : goal.try_all-requires-sync-F
try_all-requires-sync-F g c = λ κs within.
    let r : IsSync g.row.I = search rules in
    let engine : (κ : NamedLft) → IsSync (EngineRow.the_row κ (param 2 g.row.I)) = λ κ. engine_sync κ (param 2 g.row.I) (param_sync 2 g.row.I r) in
    search (engine, heap.crosses, sendable) depth 30 fits 20000
