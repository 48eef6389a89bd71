-- What the bytes of a file give.
use Rattle.std.specs.Prelude.{◌≡◌, ⊤, ℕ, List, Result, Ok, Err}
use Rattle.hp_script.specs.Mapped.{refusal}
use Rattle.hp_analysis.specs.declared.kinds.declaration.Declaration.{Declaration}
use Rattle.hp_signals.specs.Signals.{signatures_of}
use Rattle.hp_signals.specs.Mapped.{Declares}
use Rattle.hp_signals.specs.declared.fault.SignalsFault.{SignalsFault}
use Rattle.hp_signals.specs.declared.fault.SignalsFault.TheVariants.{Refused, Unread, Memory}

-- bytes that are there give what is read of them, if there was memory
abbrev pub AreOf : List ℕ → Result Declaration SignalsFault → Type 0
AreOf bytes (Ok declaration) = Declares (Ok declaration) (signatures_of bytes)
AreOf bytes (Err (Refused r)) = signatures_of bytes ≡ Err (refusal r)
AreOf bytes (Err Unread) = ⊥
AreOf bytes (Err Memory) = ⊤
