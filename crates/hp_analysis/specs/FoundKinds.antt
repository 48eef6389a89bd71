-- What the findings of kinds stand for in the definitions.
use Rattle.std.specs.Prelude.{List, map}
use Rattle.hp_analysis.specs.KindFindings as F
use Rattle.hp_analysis.specs.Kinded.{finding}
use Rattle.hp_analysis.specs.declared.kinds.all.KindFinding.{KindFinding}

abbrev pub kind_finding : KindFinding → F.KindFinding
kind_finding f = record { unit = f.unit; finding = finding f.finding }

abbrev pub kind_findings : List KindFinding → List F.KindFinding
kind_findings = map kind_finding
