-- Units whose bodies are checked against a library.
use Rattle.std.specs.Prelude.{◌≡◌, ⊤, List, All}
use Rattle.hp_rule.specs.declared.library.Library.{Library}
use Rattle.hp_rule.specs.declared.unit.Unit.{Unit}
use Rattle.hp_rule.specs.declared.unit.Unit.TheVariants.{Transaction, Moment}
use Rattle.hp_script.specs.declared.schedule.Schedule.{Schedule}

-- the unit's body, if it has one, was checked against this library
abbrev pub IsOf : Library → Unit → Type 0
IsOf library (Transaction time body) = body.library.value ≡ library
IsOf library (Moment t) = ⊤

abbrev pub AreOf : Library → List Unit → Type 0
AreOf library units = All (IsOf library) units

-- if the units of the first schedule are of this library, so are those of the second
abbrev pub StayOf : Library → (before after : Schedule) → Type 0
StayOf library before after = AreOf library before.units.items → AreOf library after.units.items
