-- What signatures that were read stand for.
use Rattle.std.specs.Prelude.{◌≡◌, ⊤, ℕ, Bool, List, [], map, string_bytes, is_some, Result, Ok, Err, bytes_eq}
use Rattle.std.specs.Map.{lookup}
use Rattle.hp_model.specs.Values.{Name}
use Rattle.hp_model.specs.Refusals as R
use Rattle.hp_model.specs.Kinds.{Declared}
use Rattle.hp_script.specs.Mapped.{Fails, refusal}
use Rattle.hp_script.specs.declared.refusal.DecodeError.{DecodeError}
use Rattle.hp_analysis.specs.Kinded.{sort}
use Rattle.hp_analysis.specs.Declarations.{declared}
use Rattle.hp_analysis.specs.declared.kinds.declaration.Declaration.{Declaration}
use Rattle.hp_signals.specs.Signals as S
use Rattle.hp_signals.specs.Signals.{signatures_of}
use Rattle.hp_signals.specs.declared.reading.Signature.{Signature}
use Rattle.hp_signals.specs.declared.fault.SignalsFault.{SignalsFault}
use Rattle.hp_signals.specs.declared.fault.SignalsFault.TheVariants.{Refused, Unread, Memory}

abbrev pub signature : Signature → S.Signature
signature s = (string_bytes s.name, map sort s.sorts.items)

-- a signal of this name is declared
abbrev pub is_in : Declared → Name → Bool
is_in d x = is_some (lookup (bytes_eq x) d.signatures)

-- these signals are declared, each as it is listed, and no others; and no rule may be fired
pub record Lists (d : Declared) (signatures : List S.Signature) : Type 0 where
  pub each : (name : Name) → lookup (bytes_eq name) d.signatures ≡ lookup (bytes_eq name) signatures
  pub fired : d.fired ≡ []

-- the declaration is that of the signals that are read, unless memory ran out
abbrev pub Declares : Result Declaration DecodeError → R.Decoded (List S.Signature) → Type 0
Declares (Ok declaration) read = (signatures : List S.Signature) × (read ≡ Ok signatures) × Lists (declared declaration) signatures
Declares (Err e) read = Fails e read

-- what a file gave is what some bytes give, if it could be read and there was memory
abbrev pub AreOfBytes : Result Declaration SignalsFault → Type 0
AreOfBytes (Ok declaration) = (bytes : List ℕ) × Declares (Ok declaration) (signatures_of bytes)
AreOfBytes (Err (Refused r)) = (bytes : List ℕ) × (signatures_of bytes ≡ Err (refusal r))
AreOfBytes (Err Unread) = ⊤
AreOfBytes (Err Memory) = ⊤
