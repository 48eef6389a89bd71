-- Lists of one length.
use Rattle.std.proofs.Common.{arith, ◌≡◌, refl, ◌∙◌, ◌==◌, ℕ, suc, false, List, [], ◌∷◌, length}
use Rattle.std.proofs.lemmas.Bool.Decides.{nat_tests}
use Rattle.std.specs.Borrow.{Bor}
use Rattle.std.specs.Global.{Vec}
use Rattle.hp_event.specs.declared.pattern.Pattern.{Pattern}
use Rattle.hp_model.specs.Kinds.{same_length}
use Rattle.hp_analysis.specs.Places.{place_lists}

none_longer : (n : ℕ) → false ≡ (0 == suc n)
none_longer n = grind (arith, nat_tests)

longer_none : (n : ℕ) → false ≡ (suc n == 0)
longer_none n = grind (arith, nat_tests)

both_longer : (m n : ℕ) → (m == n) ≡ (suc m == suc n)
both_longer m n = grind (arith, nat_tests)

pub length_test : (xs ys : List (Vec (Bor Pattern))) → same_length (place_lists xs) (place_lists ys) ≡ (length xs == length ys)
length_test [] [] = refl
length_test [] (y ∷ ys) = none_longer (length ys)
length_test (x ∷ xs) [] = longer_none (length xs)
length_test (x ∷ xs) (y ∷ ys) = length_test xs ys ∙ both_longer (length xs) (length ys)
