-- Units keep states fit.
use Rattle.std.proofs.Common.{ℕ, pos, zero, suc, List, [], ◌∷◌, map, take, length, IsTrue}
use Rattle.std.proofs.lemmas.Bool.{and_from}
use Rattle.std.specs.List.{AllByRecursion}
use Rattle.hp_model.specs.Cascade as model
use Rattle.hp_model.specs.Cascade.{run_unit, run_units}
use Rattle.hp_model.specs.Cells.{Cells}
use Rattle.hp_model.specs.Values.{fits_64}
use Rattle.hp_model.specs.Ranges.{body_fits, unit_fits}
use Rattle.hp_model.specs.Sessions.{HasFitState}
use Rattle.hp_model.proofs.FitUnits.{unit_keeps_fit, units_keep_fit}
use Rattle.hp_rule.specs.declared.library.Library.{Library}
use Rattle.hp_rule.specs.declared.unit.Unit.{Unit}
use Rattle.hp_rule.specs.declared.unit.Unit.TheVariants.{Transaction, Moment}
use Rattle.hp_rule.specs.Mapped.{library, unit, body_in}
use Rattle.hp_rule.proofs.Fitting.{script_body_fits, library_fits}
use Rattle.hp_top.specs.Units.{IsUnitOf, RanUnit, RanUnits}

-- a unit of the library fits it
unit_within : (l : Library) (u : Unit) → IsUnitOf (library l) (unit u) → IsTrue (unit_fits (library l) (unit u))
unit_within l (Transaction t b) is =
    and_from (fits_64 (pos t)) (body_fits (length (library l).classes) (body_in b.statements.items)) is.0 (script_body_fits (library l) b.statements.items is.1)
unit_within l (Moment t) is = is

units_within : (l : Library) (us : List Unit) → AllByRecursion (IsUnitOf (library l)) (map unit us) → AllByRecursion (λ u. IsTrue (unit_fits (library l) u)) (map unit us)
units_within l [] all = tt
units_within l (u ∷ us) all = (unit_within l u all.0, units_within l us all.1)

first_ones : {A : Type 0} (P : A → Type 0) (n : ℕ) (xs : List A) → AllByRecursion P xs → AllByRecursion P (take n xs)
first_ones P zero xs all = tt
first_ones P (suc n) [] all = tt
first_ones P (suc n) (x ∷ xs) all = (all.0, first_ones P n xs all.1)

pub unit_keeps : (l : Library) (u : Unit) {before after : Cells} {report : model.UnitReport} → RanUnit (library l) (unit u) before after report → IsUnitOf (library l) (unit u)
    → HasFitState (library l) before → HasFitState (library l) after
unit_keeps l u ran is former = (
  (run_unit (library l) (unit u) former.0).state,
  unit_keeps_fit (library l) (library_fits l) (unit u) (unit_within l u is) former.0 former.1,
  (ran.from former.0 former.1.ordered former.2).reaches,
)

pub units_keep : (l : Library) (us : List Unit) {before after : Cells} {reports : List model.UnitReport} → RanUnits (library l) (map unit us) before after reports
    → AllByRecursion (IsUnitOf (library l)) (map unit us) → HasFitState (library l) before → HasFitState (library l) after
units_keep l us {reports = reports} ran all former =
    let first = take (length reports) (map unit us) in (
      (run_units (library l) first former.0).state,
      units_keep_fit (library l) (library_fits l) first (first_ones (λ u. IsTrue (unit_fits (library l) u)) (length reports) (map unit us) (units_within l us all)) former.0 former.1,
      (ran.from former.0 former.1.ordered former.2).reaches,
    )
