-- Sums over lists, and how often a number occurs in one.
use Rattle.std.proofs.Common.{◌≡◌, ℕ, zero, suc, ◌+◌, ◌<◌, ◌≤◌, List, [], ◌∷◌, ◌++◌, set, length, get_or, refl, sym, ap, arith}
use Rattle.std.specs.Prelude.{All, Some}
use Rattle.std.proofs.lemmas.List.Elements.{All-pop}
use mathlib.Core.Option.{some, some-injective, some-ne-none}
use lib.ListN.{get_elem?}
use Rattle.hp_board.specs.Deal.{times, total}

pub times-append : (x : ℕ) (ys zs : List ℕ) → times x (ys ++ zs) ≡ times x ys + times x zs
times-append x [] zs = omega arith
times-append x (y ∷ ys) zs = omega (arith, times-append x ys zs)

module _ {X : Type 0} where
  pub total-append : (f : X → ℕ) (xs ys : List X) → total f (xs ++ ys) ≡ total f xs + total f ys
  total-append f [] ys = omega arith
  total-append f (x ∷ xs) ys = omega (arith, total-append f xs ys)

  pub total_set : (f : X → ℕ) (xs : List X) (k : ℕ) (v w : X) → get_elem? xs k ≡ some v → total f (set xs k w) + f v ≡ total f xs + f w
  total_set f [] k v w e = absurd (some-ne-none v (sym e))
  total_set f (x ∷ xs) zero v w e = let same : f x ≡ f v = ap f (some-injective x v e) in omega arith
  total_set f (x ∷ xs) (suc k) v w e = omega (arith, total_set f xs k v w e)

  pub total_at : (f : X → ℕ) (xs : List X) (k : ℕ) (v : X) → get_elem? xs k ≡ some v → f v ≤ total f xs
  total_at f [] k v e = absurd (some-ne-none v (sym e))
  total_at f (x ∷ xs) zero v e = let same : f x ≡ f v = ap f (some-injective x v e) in omega arith
  total_at f (x ∷ xs) (suc k) v e = omega (arith, total_at f xs k v e)

  -- if f is at most g for each element, its sum is at most that of g
  pub total_le : (f g : X → ℕ) (xs : List X) → ((k : ℕ) (u : X) → get_elem? xs k ≡ some u → f u ≤ g u) → total f xs ≤ total g xs
  total_le f g [] h = omega arith
  total_le f g (x ∷ xs) h = omega (arith, h 0 x refl, total_le f g xs (λ k u e. h (suc k) u e))

  -- and less if it is less for one of them
  pub total_lt : (f g : X → ℕ) (xs : List X) (k : ℕ) (v : X) → get_elem? xs k ≡ some v → f v < g v → ((k : ℕ) (u : X) → get_elem? xs k ≡ some u → f u ≤ g u) → total f xs < total g xs
  total_lt f g [] k v e l h = absurd (some-ne-none v (sym e))
  total_lt f g (x ∷ xs) zero v e l h = let s : f x ≡ f v = ap f (some-injective x v e) in let t : g x ≡ g v = ap g (some-injective x v e) in omega (arith, total_le f g xs (λ k u i. h (suc k) u i))
  total_lt f g (x ∷ xs) (suc k) v e l h = omega (arith, h 0 x refl, total_lt f g xs k v e l (λ j u i. h (suc j) u i))

  total_none : (f g : X → ℕ) (xs : List X) → total g xs ≡ 0 → ((k : ℕ) (u : X) → get_elem? xs k ≡ some u → g u ≡ 0 → f u ≡ 0) → total f xs ≡ 0
  total_none f g [] z h = refl
  total_none f g (x ∷ xs) z h = let a : f x ≡ 0 = h 0 x refl (omega arith) in omega (arith, total_none f g xs (omega arith) (λ k u e. h (suc k) u e))

  -- if one element has all of g, and f is 0 wherever g is, it has all of f
  pub total_alone : (f g : X → ℕ) (xs : List X) (k : ℕ) (v : X) → get_elem? xs k ≡ some v → total g xs ≡ g v → ((k : ℕ) (u : X) → get_elem? xs k ≡ some u → g u ≡ 0 → f u ≡ 0) → total f xs ≡ f v
  total_alone f g [] k v e all h = absurd (some-ne-none v (sym e))
  total_alone f g (x ∷ xs) zero v e all h = let s : f x ≡ f v = ap f (some-injective x v e) in let t : g x ≡ g v = ap g (some-injective x v e) in
      let rest : total f xs ≡ 0 = total_none f g xs (omega arith) (λ k u i. h (suc k) u i) in omega arith
  total_alone f g (x ∷ xs) (suc k) v e all h = let least : g v ≤ total g xs = total_at g xs k v e in
      let a : f x ≡ 0 = h 0 x refl (omega arith) in omega (arith, total_alone f g xs k v e (omega arith) (λ j u i. h (suc j) u i))

  -- a list and its last element
  pub total_popped : (f : X → ℕ) (xs ys : List X) (t : X) (n : ℕ) → xs ≡ ys ++ t ∷ [] → n ≡ f t → n + total f ys ≡ total f xs
  total_popped f xs ys t n e same = omega (arith, ap (total f) e, total-append f ys (t ∷ []))

  pub All-popped : (P : X → Type 0) (xs ys : List X) (t : X) → xs ≡ ys ++ t ∷ [] → All P xs → All P ys × P t
  All-popped P xs ys t e h = All-pop P xs ys (Some t) e h

  pub total_get : (f : X → ℕ) (xs : List X) (k : ℕ) (d : X) → k < length xs → f (get_or xs k d) ≤ total f xs
  total_get f [] k d h = absurd (omega arith)
  total_get f (x ∷ xs) zero d h = omega arith
  total_get f (x ∷ xs) (suc k) d h = omega (arith, total_get f xs k d (omega arith))
