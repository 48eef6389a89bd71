use Rattle.std.proofs.Common.{◌≡◌}
use Rattle.hp_model.specs.Chains.{body_triggers}
use Rattle.hp_analysis.specs.Declarations.{signatures}
use Rattle.hp_analysis.specs.Graphs.{seen}
use Rattle.hp_analysis.specs.Outside.{signals_in}
use Rattle.hp_analysis.specs.Sets.{marked}
use Rattle.hp_analysis.proofs.triggers.Triggers.mark_signals.Given as goal

-- the rest of the signals are still to be added
abbrev pub invariant-loop-name : goal.invariant-loop-name
invariant-loop-name l =
    let library = seen l.self in
    marked (body_triggers library (signals_in (signatures l.name-iterator))) l.set.items
    ≡ marked (body_triggers library (signals_in (signatures l.declaration.signatures.entries))) l.initial.set.items
