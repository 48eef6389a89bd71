-- Non-empty parts of lists from an index, and whether two lists are equal there.
use Rattle.std.proofs.Common.{◌≡◌, refl, ap, ap₂, sym, ◌∙◌, ℕ, zero, suc, ◌+◌, ◌-◌, ◌<◌, ◌≤◌, arith, List, [], ◌∷◌, ◌++◌, length, map, take, drop, length-append, length-drop, Bool, true, false, ◌&&◌}
use Rattle.std.proofs.lemmas.List.{append-nil, drop-append-le, take-append-le, length-map, take-map, drop-map, drop-drop}
use Rattle.std.proofs.Math.ListN.{drop_of_length-le}
use Rattle.std.proofs.Math.Seq.{take-length, drop-append-add}
use Rattle.std.specs.Ordering.{on}
use lib.Pointwise.{pointwise}
use mathlib.Core.Bool.{true≢false}
use Rattle.hp_value.proofs.Lists.{pointwise_map}
use Rattle.hp_detect.specs.Ropes.{IsRun}

-- ---- the rest of a list from an index

pub drop_more : {A : Type 0} (n : ℕ) (xs ys : List A) → n < length xs → drop (n + 1) xs ++ ys ≡ drop 1 (drop n xs ++ ys)
drop_more n xs ys low = sym (drop-append-le 1 (drop n xs) ys (omega (arith, low, length-drop n xs)) ∙ ap (λ zs. zs ++ ys) (drop-drop 1 n xs))

-- the rest of a list of items maps to the rest of the mapped list
pub rest_map : {X A : Type 0} (f : X → A) (xs : List X) (ys : List A) (at : ℕ) → map f xs ≡ ys
    → map f (take (length xs - at) (drop at xs)) ≡ drop at ys
rest_map f xs ys at is =
    ap (map f) (ap (λ k. take k (drop at xs)) (sym (length-drop at xs)) ∙ take-length (drop at xs)) ∙ sym (drop-map f at xs) ∙ ap (drop at) is

-- ---- runs

module _ {A : Type 0} where
  pub run_here : (r xs : List A) (at : ℕ) → r ≡ drop at xs → at < length xs → IsRun r at xs
  run_here r xs at is low = record {
    begins = sym (ap (λ zs. r ++ zs) (drop_of_length-le xs {i = at + length r} (omega (arith, ap length is, length-drop at xs))) ∙ append-nil r ∙ is);
    some = omega (arith, ap length is, length-drop at xs, low);
  }

  drop_second : (xs ys : List A) (k m : ℕ) → m ≡ length xs + k → drop m (xs ++ ys) ≡ drop k ys
  drop_second xs ys k m e = ap (λ i. drop i (xs ++ ys)) e ∙ drop-append-add xs ys k

  pub run_right : (r all xs ys : List A) (at n : ℕ) → all ≡ xs ++ ys → n ≡ length xs → n ≤ at → IsRun r (at - n) ys → IsRun r at all
  run_right r all xs ys at n whole e low h = record {
    begins =
        ap (drop at) whole ∙ drop_second xs ys (at - n) at (omega (arith, e, low)) ∙ h.begins
        ∙ ap (λ zs. r ++ zs) (sym (ap (drop (at + length r)) whole ∙ drop_second xs ys (at - n + length r) (at + length r) (omega (arith, e, low))));
    some = h.some;
  }

  pub within_right : (xs ys : List A) (at n : ℕ) → n ≡ length xs → n ≤ at → at < length (xs ++ ys) → at - n < length ys
  within_right xs ys at n e low within = omega (arith, e, low, within, length-append xs ys)

-- ---- whether two lists are equal

and_false : (a b : Bool) → b ≡ false → (a && b) ≡ false
and_false true b h = h
and_false false b h = refl

part_false : (a b c : Bool) → (c ≡ false → b ≡ false) → (a && c) ≡ false → (a && b) ≡ false
part_false true b c h e = h e
part_false false b c h e = refl

past_true : (a b c d : Bool) → (c ≡ true → b ≡ d) → (a && c) ≡ true → (a && b) ≡ d
past_true true b c d h e = h e
past_true false b c d h e = absurd (true≢false (sym e))

module _ {A : Type 0} (E : A → A → Bool) where
  alike_past : (n : ℕ) (xs ys : List A) → pointwise E (take n xs) (take n ys) ≡ true → pointwise E xs ys ≡ pointwise E (drop n xs) (drop n ys)
  alike_past zero xs ys h = refl
  alike_past (suc n) [] [] h = refl
  alike_past (suc n) [] (y ∷ ys) h = absurd (true≢false (sym h))
  alike_past (suc n) (x ∷ xs) [] h = absurd (true≢false (sym h))
  alike_past (suc n) (x ∷ xs) (y ∷ ys) h = past_true (E x y) _ (pointwise E (take n xs) (take n ys)) _ (alike_past n xs ys) h

  differ_in : (n : ℕ) (xs ys : List A) → pointwise E (take n xs) (take n ys) ≡ false → pointwise E xs ys ≡ false
  differ_in zero xs ys h = absurd (true≢false h)
  differ_in (suc n) [] [] h = h
  differ_in (suc n) [] (y ∷ ys) h = refl
  differ_in (suc n) (x ∷ xs) [] h = refl
  differ_in (suc n) (x ∷ xs) (y ∷ ys) h = part_false (E x y) _ (pointwise E (take n xs) (take n ys)) (differ_in n xs ys) h

  differ_from : (n : ℕ) (xs ys : List A) → pointwise E (drop n xs) (drop n ys) ≡ false → pointwise E xs ys ≡ false
  differ_from zero xs ys h = h
  differ_from (suc n) [] [] h = h
  differ_from (suc n) [] (y ∷ ys) h = refl
  differ_from (suc n) (x ∷ xs) [] h = refl
  differ_from (suc n) (x ∷ xs) (y ∷ ys) h = and_false (E x y) _ (differ_from n xs ys h)

  -- the first items of two runs, and whether they are equal
  module _ {X : Type 0} (f : X → A) (here there : List X) (xs ys : List A) (at n : ℕ) (h : IsRun (map f here) at xs) (k : IsRun (map f there) at ys)
      (low : n ≤ length here) (low' : n ≤ length there) where
    next : (run : List X) (zs : List A) → IsRun (map f run) at zs → n ≤ length run → take n (drop at zs) ≡ map f (take n run)
    next run zs h low =
        ap (take n) h.begins ∙ take-append-le n (map f run) (drop (at + length (map f run)) zs) (omega (arith, low, length-map run f)) ∙ take-map f n run

    compared : pointwise E (take n (drop at xs)) (take n (drop at ys)) ≡ pointwise (on f E) (take n here) (take n there)
    compared = ap₂ (pointwise E) (next here xs h low) (next there ys k low') ∙ sym (pointwise_map f E (take n here) (take n there))

    pub alike_next : pointwise (on f E) (take n here) (take n there) ≡ true → pointwise E (drop at xs) (drop at ys) ≡ pointwise E (drop (at + n) xs) (drop (at + n) ys)
    alike_next e = alike_past n (drop at xs) (drop at ys) (compared ∙ e) ∙ ap₂ (pointwise E) (drop-drop n at xs) (drop-drop n at ys)

    pub differ_next : pointwise (on f E) (take n here) (take n there) ≡ false → pointwise E xs ys ≡ false
    differ_next e = differ_from at xs ys (differ_in n (drop at xs) (drop at ys) (compared ∙ e))
