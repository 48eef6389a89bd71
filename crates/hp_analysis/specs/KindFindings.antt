-- The findings of kinds in a script.
use Rattle.std.specs.Prelude.{ℕ, suc, List, [], ◌∷◌, ◌++◌, map, Option, Some, None}
use Rattle.hp_model.specs.Rules.{Library}
use Rattle.hp_model.specs.Cascade.{Unit}
use Rattle.hp_model.specs.Kinds.{Declared}
use Rattle.hp_analysis.specs.Findings.{Finding, library_findings, unit_findings}

-- in the rules, by its path in the script; or in a unit, by the unit's number in the report and its path in the body
pub record KindFinding : Type 0 where
  pub unit : Option ℕ
  pub finding : Finding

abbrev pub in_unit : Option ℕ → Finding → KindFinding
in_unit unit f = record { unit = unit; finding = f }

-- in the units from the n-th on
abbrev pub units_findings : Library → Declared → ℕ → List Unit → List KindFinding
units_findings library d n [] = []
units_findings library d n (u ∷ us) = map (in_unit (Some n)) (unit_findings library d u) ++ units_findings library d (suc n) us

abbrev pub kind_findings : Library → Declared → List Unit → List KindFinding
kind_findings library d us = map (in_unit None) (library_findings library d) ++ units_findings library d 1 us
