-- The findings of kinds of a script.
use Rattle.std.proofs.Common.{◌≡◌, refl, sym, ap₂, ◌∙◌, ℕ, suc, List, [], ◌∷◌, ◌++◌, map, Bool, ◌&&◌, Option, Some, None}
use Rattle.std.specs.List.{list_all}
use Rattle.hp_model.specs.Rules.{Library}
use Rattle.hp_model.specs.Cascade.{Unit}
use Rattle.hp_model.specs.Kinds.{Declared, library_kinded, unit_kinded}
use Rattle.hp_analysis.specs.Findings.{Finding, finds_nothing, library_findings, unit_findings}
use Rattle.hp_analysis.specs.KindFindings.{KindFinding, in_unit, units_findings, kind_findings}
use Rattle.hp_analysis.specs.KindLaws.{script_kinded}
use Rattle.hp_analysis.proofs.Judging.{mapped_nothing, both_nothing, library_judged, unit_judged}

-- findings of a unit, and what comes later
some_found : (unit : Option ℕ) (fs : List Finding) (later : List KindFinding) (x y : Bool) → finds_nothing fs ≡ x → finds_nothing later ≡ y → finds_nothing (map (in_unit unit) fs ++ later) ≡ (x && y)
some_found unit fs later x y e f =
    both_nothing (map (in_unit unit) fs) later ∙ ap₂ (λ a b. a && b) (sym (mapped_nothing (in_unit unit) fs) ∙ e) f

units_judged : (library : Library) (d : Declared) (n : ℕ) (us : List Unit) → finds_nothing (units_findings library d n us) ≡ list_all (unit_kinded library d) us
units_judged library d n [] = refl
units_judged library d n (u ∷ us) =
    some_found (Some n) (unit_findings library d u) (units_findings library d (suc n) us) (unit_kinded library d u) (list_all (unit_kinded library d) us)
    (unit_judged library d u) (units_judged library d (suc n) us)

-- there are none exactly if the script is kinded
pub script_judged : (library : Library) (d : Declared) (us : List Unit) → finds_nothing (kind_findings library d us) ≡ script_kinded library d us
script_judged library d us =
    some_found None (library_findings library d) (units_findings library d 1 us) (library_kinded library d) (list_all (unit_kinded library d) us)
    (library_judged library d) (units_judged library d 1 us)
