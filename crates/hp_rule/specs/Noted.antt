-- Lists of rule numbers without duplicates.
use Rattle.std.specs.Prelude.{ℕ, ◌-◌, ◌==◌, Bool, false, List, [], ◌∷◌, ◌++◌, length, Option, Some, None, slice_get, if◌then◌else◌, String}
use Rattle.std.specs.Global.{Vec}
use Rattle.std.specs.Option.{option_map_or}
use Rattle.std.specs.Ordering.{nat_cmp}
use Rattle.std.specs.BTreeMap.{BTreeMap, get, get_by_text}
use Rattle.std.specs.declared.alloc.Global.{Global}

abbrev pub is_number : ℕ → Option ℕ → Bool
is_number n None = false
is_number n (Some m) = m == n

-- the list with a number at its end, unless it is the last already
abbrev pub noted : ℕ → List ℕ → List ℕ
noted n ns = if is_number n (slice_get ns (length ns - 1)) then ns else ns ++ n ∷ []

abbrev pub noted_if : Bool → ℕ → List ℕ → List ℕ
noted_if b n ns = if b then noted n ns else ns

-- what a look-up found, as a list
abbrev pub numbers : Option (Vec ℕ) → List ℕ
numbers found = option_map_or (λ ns. ns.items) found []

abbrev pub of_class : BTreeMap ℕ (Vec ℕ) → ℕ → List ℕ
of_class map class = numbers (get nat_cmp map class)

abbrev pub of_name : BTreeMap (String Global) (Vec ℕ) → List ℕ → List ℕ
of_name map name = numbers (get_by_text map name)
