-- The exit statuses of programs that a file gives no signals.
use Rattle.std.specs.Prelude.{ℕ}
use Rattle.hp_signals.specs.declared.fault.SignalsFault.{SignalsFault}
use Rattle.hp_signals.specs.declared.fault.SignalsFault.TheVariants.{Refused, Unread, Memory}

-- as where a program's words are refused, or where memory runs out for them
abbrev pub code_of_signals : SignalsFault → ℕ
code_of_signals (Refused r) = 3
code_of_signals Unread = 3
code_of_signals Memory = 4
