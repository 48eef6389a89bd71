-- The occurrence of a statement that gives a signal.
use Rattle.std.specs.Prelude.{List, Ok, Err}
use Rattle.hp_model.specs.Values.{Name, Value, Outcome}
use Rattle.hp_model.specs.Occurrences.{Primitive, signalled}

-- a signal with these arguments, unless one of them has a fault
abbrev pub signal_of : Name → Outcome (List Value) → Outcome Primitive
signal_of x (Ok vs) = Ok (signalled x vs)
signal_of x (Err c) = Err c
