-- A list with one more element.
use Rattle.std.proofs.Common.{◌≡◌, refl, ap, ℕ, zero, suc, ◌⊎◌, inl, inr, List, [], ◌∷◌, ◌++◌, length, Some}
use Rattle.std.specs.Prelude.{slice_get}

pub get_pushed : {A : Type 0} (xs : List A) (x : A) (k : ℕ) (y : A) → slice_get (xs ++ x ∷ []) k ≡ Some y → (slice_get xs k ≡ Some y) ⊎ ((k ≡ length xs) × (x ≡ y))
get_pushed [] x zero y h = inr (refl, cc)
get_pushed [] x (suc k) y h = cc
get_pushed (z ∷ xs) x zero y h = inl h
get_pushed (z ∷ xs) x (suc k) y h = elim (get_pushed xs x k y h) [ inl old ↦ inl old | inr new ↦ inr (ap suc new.0, new.1) ]
