-- What was found of readings of the parts of an occurrence is so.
use Rattle.std.specs.Prelude.{◌≡◌, List, Option, All}
use Rattle.hp_model.specs.Rules.{Library}
use Rattle.hp_model.specs.Kinds.{Columns, Declared}
use Rattle.hp_analysis.specs.Findings.{part_sort}
use Rattle.hp_analysis.specs.Kinded.{sort, explained}
use Rattle.hp_analysis.specs.Readings.{reading}
use Rattle.hp_analysis.specs.declared.kinds.known.Known.{Known}

abbrev pub IsKnown : Library → Declared → Option Columns → Known → Type 0
IsKnown library d cs k = explained sort k.given ≡ part_sort library d cs k.part (reading k.read)

abbrev pub AreKnown : Library → Declared → Option Columns → List Known → Type 0
AreKnown library d cs ks = All (IsKnown library d cs) ks
