-- The laws of kinds, for libraries and units as the program has them.
use Rattle.std.proofs.Common.{◌≡◌, true, List, [], ◌∷◌, IsTrue}
use Rattle.std.proofs.lemmas.Bool.{and_parts}
use Rattle.std.specs.List.{list_all, AllByRecursion}
use Rattle.hp_model.specs.Cascade as C
use Rattle.hp_model.specs.Kinds.{Declared, library_kinded, unit_kinded}
use Rattle.hp_model.proofs.KindUnits.{kinds_hold, never_of_kinds}
use Rattle.hp_rule.specs.declared.library.Library.{Library}
use Rattle.hp_rule.specs.Libraries.{library}
use Rattle.hp_rule.proofs.Fitting.{library_fits}
use Rattle.hp_analysis.specs.KindLaws.{script_kinded, KeepsKinds, NeverEndsOfKinds}

pub unit_keeps : (l : Library) (d : Declared) (u : C.Unit) → unit_kinded (library l) d u ≡ true → KeepsKinds (library l) d u
unit_keeps l d u kinded = λ kinds fits S fit declared. kinds_hold (library l) d (library_fits l) kinds u fits kinded S fit declared

all_true : {A : Type 0} (p : A → _) (xs : List A) → list_all p xs ≡ true → AllByRecursion (λ x. IsTrue (p x)) xs
all_true p [] is = tt
all_true p (x ∷ xs) is = let parts = and_parts (p x) (list_all p xs) is in (parts.0, all_true p xs parts.1)

pub script_keeps : (l : Library) (d : Declared) (us : List C.Unit) → script_kinded (library l) d us ≡ true → NeverEndsOfKinds (library l) us
script_keeps l d us kinded = λ fits.
    let parts = and_parts (library_kinded (library l) d) (list_all (unit_kinded (library l) d) us) kinded in
    never_of_kinds (record { library = library l; units = us }) d (library_fits l) fits parts.0 (all_true (unit_kinded (library l) d) us parts.1)
