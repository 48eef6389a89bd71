use Rattle.std.proofs.Common.{◌≡◌, [], drop, map, List}
use Rattle.serde_json.specs.View.{view}
use Rattle.hp_model.specs.Parts.{read_from}
use Rattle.hp_analysis.specs.Declarations.{declared}
use Rattle.hp_signals.specs.Signals.{Signature}
use Rattle.hp_signals.specs.Mapped.{Lists}
use Rattle.hp_signals.proofs.InOrder.{read_next}
use Rattle.hp_signals.proofs.reading.signatures_in.Given as goal

-- what was read so far is declared
abbrev pub invariant-loop-i : goal.invariant-loop-i
invariant-loop-i l =
    (before : List Signature) × Lists (declared l.declaration) before
    × (read_from read_next [] before l.i (map view (drop l.i l.values)) ≡ read_from read_next [] [] 0 (map view l.values))
