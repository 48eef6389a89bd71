-- What printing promises.
use Rattle.std.specs.Prelude.{◌≡◌, ⊤, ℕ, List, Option, Some, None, Result, Ok, Err, String, string_bytes}
use Rattle.std.specs.declared.alloc.Global.{Global}
use Rattle.hp_print.specs.declared.error.PrintError.{PrintError}
use Rattle.hp_print.specs.declared.error.PrintError.TheVariants.{NoForm, Memory}

-- the result is the text that the definition gives, or there is none, unless memory ran out
abbrev pub IsPrinted : Result (String Global) PrintError → Option (List ℕ) → Type 0
IsPrinted (Ok text) printed = printed ≡ Some (string_bytes text)
IsPrinted (Err NoForm) printed = printed ≡ None
IsPrinted (Err Memory) printed = ⊤
