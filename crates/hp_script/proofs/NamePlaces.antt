-- The position of a name among those of a list's items.
use Rattle.std.proofs.Common.{◌≡◌, ℕ, ◌+◌, ◌∙◌, Bool, cond, List, [], ◌∷◌, length, map, Some, None, refl, ap}
use Rattle.std.proofs.lemmas.Iterator.Adapters.{position_from-zero}
use Rattle.std.specs.List.{position_from, position_or_len}
use Rattle.std.specs.Str.{bytes_eq}
use lib.Dec.{ltb}
use Rattle.hp_model.specs.Values.{Name}
use Rattle.hp_model.specs.Parts.{place_of}

position_among : {A B : Type 0} (f : A → B) (test : B → Bool) (i : ℕ) (xs : List A) → position_from (λ x. test (f x)) i xs ≡ position_from test i (map f xs)
position_among f test i [] = refl
position_among f test i (x ∷ xs) = ap (cond (test (f x)) (Some i)) (position_among f test (i + 1) xs)

-- the first item whose name this is, where f says what an item stands for, and g names that
pub place_of_item : {A B : Type 0} (f : A → B) (g : B → Name) (name : Name) (xs : List A)
    → cond (ltb (position_or_len (λ x. bytes_eq (g (f x)) name) xs) (length xs)) (Some (position_or_len (λ x. bytes_eq (g (f x)) name) xs)) None
    ≡ place_of (map g (map f xs)) name
place_of_item f g name xs =
    position_from-zero (λ x. bytes_eq (g (f x)) name) xs ∙ position_among f (λ y. bytes_eq (g y) name) 0 xs ∙ position_among g (λ n. bytes_eq n name) 0 (map f xs)
