-- Lemmas on lists of items that stand for the model's.
use Rattle.std.proofs.Common.{◌≡◌, refl, sym, ap, ap₂, ◌∙◌, ℕ, suc, ◌<◌, ◌≤◌, arith, Bool, true, false, not, List, [], ◌∷◌, ◌&&◌, map, length, get_or, drop, length-drop, drop-cons}
use Rattle.std.specs.List.{AllZip}
use Rattle.std.specs.Ordering.{on}
use lib.Pointwise.{pointwise, pointwise_long}
use mathlib.Core.Bool.{true≢false}

module _ {A B : Type 0} (f : A → B) where
  -- clones stand for what their sources stand for
  pub clones_map : (xs ys : List A) → AllZip (λ x y. f y ≡ f x) xs ys → map f ys ≡ map f xs
  clones_map [] [] h = refl
  clones_map [] (y ∷ ys) h = absurd h
  clones_map (x ∷ xs) [] h = absurd h
  clones_map (x ∷ xs) (y ∷ ys) h = ap (λ b. b ∷ map f ys) h.0 ∙ ap (λ bs. f x ∷ bs) (clones_map xs ys h.1)

  pub pointwise_map : (E : B → B → Bool) (xs ys : List A) → pointwise (on f E) xs ys ≡ pointwise E (map f xs) (map f ys)
  pointwise_map E [] [] = refl
  pointwise_map E [] (y ∷ ys) = refl
  pointwise_map E (x ∷ xs) [] = refl
  pointwise_map E (x ∷ xs) (y ∷ ys) = ap (λ b. E (f x) (f y) && b) (pointwise_map E xs ys)

pub both_true : (a b r : Bool) → a ≡ true → r ≡ b → r ≡ (a && b)
both_true true b r h e = e
both_true false b r h e = absurd (true≢false (sym h))

pub first_false : (a b r : Bool) → r ≡ a → r ≡ false → r ≡ (a && b)
first_false true b r e h = absurd (true≢false (sym e ∙ h))
first_false false b r e h = h

pub first_differs : (a b r : Bool) → not a ≡ true → false ≡ ((a && b) && r)
first_differs true b r h = absurd (true≢false (sym h))
first_differs false b r h = refl

pub second_differs : (a b r : Bool) → not b ≡ true → false ≡ ((a && b) && r)
second_differs true true r h = absurd (true≢false (sym h))
second_differs true false r h = refl
second_differs false b r h = refl

pub none_differs : (a b r : Bool) → not a ≡ false → not b ≡ false → ((a && b) && r) ≡ r
none_differs true true r h k = refl
none_differs true false r h k = absurd (true≢false k)
none_differs false b r h k = absurd (true≢false h)

pub first_of : (a b : Bool) → (a && b) ≡ true → a ≡ true
first_of true b h = refl
first_of false b h = h

pub second_of : (a b : Bool) → (a && b) ≡ true → b ≡ true
second_of true b h = h
second_of false b h = absurd (true≢false (sym h))

-- lists whose items are pairwise the same by a test have the same of what the test compares
pub same_parts : {A B : Type 0} (E : A → A → Bool) (part : A → B) → ((x y : A) → E x y ≡ true → part x ≡ part y) → (xs ys : List A) → pointwise E xs ys ≡ true → map part xs ≡ map part ys
same_parts E part compared [] [] h = refl
same_parts E part compared [] (y ∷ ys) h = absurd (true≢false (sym h))
same_parts E part compared (x ∷ xs) [] h = absurd (true≢false (sym h))
same_parts E part compared (x ∷ xs) (y ∷ ys) h =
    ap (λ b. b ∷ map part xs) (compared x y (first_of (E x y) (pointwise E xs ys) h)) ∙ ap (λ bs. part y ∷ bs) (same_parts E part compared xs ys (second_of (E x y) (pointwise E xs ys) h))

-- from a place on, two lists are the same where their items there are, and what follows these
pub pointwise_from : {A : Type 0} (E : A → A → Bool) (xs ys : List A) (i : ℕ) (x y : A) → i < length xs → i < length ys → x ≡ get_or xs i x → y ≡ get_or ys i y
    → pointwise E (drop i xs) (drop i ys) ≡ (E x y && pointwise E (drop (suc i) xs) (drop (suc i) ys))
pointwise_from {A} E xs ys i x y low low' is is' =
    ap₂ (pointwise E) (drop-cons xs i x low ∙ ap (λ (z : A). z ∷ drop (suc i) xs) (sym is)) (drop-cons ys i y low' ∙ ap (λ (z : A). z ∷ drop (suc i) ys) (sym is'))

pub pointwise_at_end : {A : Type 0} (E : A → A → Bool) (xs ys : List A) (i : ℕ) → length xs ≤ i → length ys ≤ i → true ≡ pointwise E (drop i xs) (drop i ys)
pointwise_at_end {A} E xs ys i past past' = ap₂ (pointwise E) (sym (empty _ (omega (arith, length-drop i xs, past)))) (sym (empty _ (omega (arith, length-drop i ys, past'))))
  where
    empty : (zs : List A) → length zs ≡ 0 → zs ≡ []
    empty [] e = refl
    empty (z ∷ zs) e = absurd (omega (arith, e))

pub pointwise_unlike : {A : Type 0} (E : A → A → Bool) (xs ys : List A) → (length xs ≡ length ys → ⊥) → false ≡ pointwise E xs ys
pointwise_unlike E xs ys differ = by_test (pointwise E xs ys) refl
  where
    by_test : (b : Bool) → pointwise E xs ys ≡ b → false ≡ b
    by_test false e = refl
    by_test true e = absurd (differ (pointwise_long E xs ys e))

pub false_first : (a r : Bool) → not a ≡ true → false ≡ (a && r)
false_first true r h = absurd (true≢false (sym h))
false_first false r h = refl

pub true_first : (a r : Bool) → not a ≡ false → (a && r) ≡ r
true_first true r h = refl
true_first false r h = absurd (true≢false h)
