-- A least number is the one that the definitions look for.
use Rattle.std.proofs.Common.{arith, ◌≡◌, refl, sym, ap, ◌∙◌, subst, ℕ, zero, suc, ◌+◌, ◌<◌, ◌≤◌, Bool, true, false, nat_lt, Option, Some, None}
use Rattle.std.specs.Prelude.{if◌then◌else◌, Result, Ok, Err, IfOk}
use Rattle.std.proofs.lemmas.Bool.{ltb-true, ltb-false}
use Rattle.hp_analysis.specs.Depths.{least_from, least}
use Rattle.hp_analysis.specs.Tables.{IsLeast}

clash : {A : Type 0} {b : Bool} → b ≡ true → b ≡ false → A
clash e f = let never : true ≡ false = sym e ∙ f in cc

module _ (test : ℕ → Bool) (most : ℕ) where
  -- the least number can't be above one that passes, and all below it fail
  same_number : (k j : ℕ) → ((i : ℕ) → i < k → test i ≡ false) → test k ≡ true → ((i : ℕ) → i < j → test i ≡ false) → test j ≡ true → k ≡ j
  same_number k j below_k at_k below_j at_j = by (nat_lt k j) (nat_lt j k) refl refl
    where
      by : (a b : Bool) → nat_lt k j ≡ a → nat_lt j k ≡ b → k ≡ j
      by true b is_a is_b = clash at_k (below_j k (ltb-true k j is_a))
      by false true is_a is_b = clash at_j (below_k j (ltb-true j k is_b))
      by false false is_a is_b = let low = ltb-false k j is_a in let high = ltb-false j k is_b in omega (arith, low, high)

  below_next : (j : ℕ) → ((i : ℕ) → i < j → test i ≡ false) → test j ≡ false → (i : ℕ) → i < suc j → test i ≡ false
  below_next j below at i low = by (nat_lt i j) refl
    where
      by : (b : Bool) → nat_lt i j ≡ b → test i ≡ false
      by true is = below i (ltb-true i j is)
      by false is = let high = ltb-false i j is in let same : j ≡ i = omega (arith, low, high) in subst (λ n. test n ≡ false) same at

  last : (j : ℕ) (found : Option ℕ) → j ≡ most → IsLeast test most found → ((i : ℕ) → i < suc j → test i ≡ false) → found ≡ None
  last j None e h below = refl
  last j (Some k) e h below = let low : k ≤ most = h.0.0 in clash h.0.1 (below k (omega (arith, e, low)))

  here : (j : ℕ) (found : Option ℕ) → j ≤ most → IsLeast test most found → ((i : ℕ) → i < j → test i ≡ false) → test j ≡ true → found ≡ Some j
  here j None low h below at = clash at (h j low)
  here j (Some k) low h below at = ap Some (same_number k j h.1 h.0.1 below at)

  from : (j more : ℕ) (found : Option ℕ) → j + more ≡ most → IsLeast test most found → ((i : ℕ) → i < j → test i ≡ false) → found ≡ least_from test j more
  from j zero found e h below = by (test j) refl
    where
      by : (b : Bool) → test j ≡ b → found ≡ (if b then Some j else None)
      by true is = here j found (omega (arith, e)) h below is
      by false is = last j found (omega (arith, e)) h (below_next j below is)
  from j (suc more) found e h below = by (test j) refl (λ is. from (suc j) more found (omega (arith, e)) h (below_next j below is))
    where
      by : (b : Bool) → test j ≡ b → (test j ≡ false → found ≡ least_from test (suc j) more) → found ≡ (if b then Some j else least_from test (suc j) more)
      by true is later = here j found (omega (arith, e)) h below is
      by false is later = later is

  pub least_is : (found : Option ℕ) → IsLeast test most found → found ≡ least test most
  least_is found h = from 0 most found (omega arith) h (λ i low. absurd (omega (arith, low)))

pub ok_to : {A E : Type 0} {P Q : A → Type 0} (r : Result A E) → ((x : A) → P x → Q x) → IfOk r P → IfOk r Q
ok_to (Ok x) next h = next x h
ok_to (Err e) next h = tt
