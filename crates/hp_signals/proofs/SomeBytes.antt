-- What a file gives is what some bytes give.
use Rattle.std.proofs.Common.{ℕ, List, Result, Ok, Err}
use Rattle.hp_analysis.specs.declared.kinds.declaration.Declaration.{Declaration}
use Rattle.hp_signals.specs.Mapped.{AreOfBytes}
use Rattle.hp_signals.specs.OfBytes.{AreOf}
use Rattle.hp_signals.specs.declared.fault.SignalsFault.{SignalsFault}
use Rattle.hp_signals.specs.declared.fault.SignalsFault.TheVariants.{Refused, Unread, Memory}

pub of_some : (bytes : List ℕ) (given : Result Declaration SignalsFault) → AreOf bytes given → AreOfBytes given
of_some bytes (Ok declaration) are = (bytes, are)
of_some bytes (Err (Refused r)) are = (bytes, are)
of_some bytes (Err Unread) are = absurd are
of_some bytes (Err Memory) are = tt
