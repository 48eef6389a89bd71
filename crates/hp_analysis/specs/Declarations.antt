-- What a declaration stands for in the definitions.
use Rattle.std.specs.Option.{option_map_or}
use Rattle.std.specs.Prelude.{◌≡◌, true, ℕ, Option, Some, List, [], map, string_bytes, String, bytes_eq, IfSome}
use Rattle.std.specs.Global.{Vec}
use Rattle.std.specs.Map.{lookup}
use Rattle.std.specs.declared.alloc.Global.{Global}
use Rattle.hp_model.specs.Values.{Name}
use Rattle.hp_model.specs.Kinds as K
use Rattle.hp_analysis.specs.Kinded.{sort}
use Rattle.hp_analysis.specs.declared.kinds.sort.Sort.{Sort}
use Rattle.hp_analysis.specs.declared.kinds.declaration.Declaration.{Declaration}

abbrev pub signatures : List (String Global × Vec Sort) → List (Name × List K.Sort)
signatures = map (λ e. (string_bytes e.0, map sort e.1.items))

abbrev pub declared : Declaration → K.Declared
declared d = record { signatures = signatures d.signatures.entries; fired = d.fired.items }

-- what a look-up found, as a list
abbrev pub sorts_found : Option (Vec Sort) → List K.Sort
sorts_found found = option_map_or (λ v. map sort v.items) found []

-- each signal that the first declares has exactly this signature in the second
abbrev pub Keeps : K.Declared → K.Declared → Type 0
Keeps given d = (name : Name) → IfSome (lookup (bytes_eq name) given.signatures) (λ sorts. lookup (bytes_eq name) d.signatures ≡ Some sorts)

-- each rule that statements may fire by the first, they may fire by the second
abbrev pub KeepsFired : K.Declared → K.Declared → Type 0
KeepsFired given d = (rule : ℕ) → K.is_fired given rule ≡ true → K.is_fired d rule ≡ true
