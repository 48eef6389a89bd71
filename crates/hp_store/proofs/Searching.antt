-- The keys round the place at which a search ends.
use Rattle.std.proofs.Common.{◌≡◌, refl, ap, sym, ◌∙◌, subst, ℕ, zero, suc, ◌+◌, ◌<◌, ◌≤◌, ℤ, Bool, true, false, cond, List, [], ◌∷◌, length, take, drop, get_or, ⊎_elim, arith}
use Rattle.std.specs.Prelude.{filter}
use Rattle.std.specs.declared.cmp.Ordering.TheVariants.{Less, Equal, Greater}
use Rattle.std.specs.Ordering.{is_lt, is_gt, int_cmp, ordering_index, ordering_reverse}
use Rattle.std.specs.List.{AllWithin, HoldsAt}
use Rattle.std.specs.List.Sorted.{IsStrictlySortedBy, IsNonDecreasingBy}
use Rattle.std.proofs.lemmas.Bool.{cases_eq}
use Rattle.std.proofs.lemmas.Cmp.{int_cmp_total}
use Rattle.std.proofs.lemmas.List.Sorted.{searchable_from_sorted}
use Rattle.std.proofs.lemmas.Map.Keys.{Less-from_sorted}
use Rattle.std.proofs.lemmas.Map.Lookups.{exact_signed}
use Rattle.hp_store.specs.Keys.{below, above}

none_pass : (p : ℤ → Bool) (xs : List ℤ) → AllWithin (λ x. p x ≡ false) xs 0 (length xs) → [] ≡ filter p xs
none_pass p [] none = refl
none_pass p (x ∷ xs) none =
    none_pass p xs (λ k d low high. none (suc k) d (omega arith) (omega arith)) ∙ ap (λ b. cond b (x ∷ filter p xs) (filter p xs)) (sym (none 0 x (omega arith) (omega arith)))

all_pass : (p : ℤ → Bool) (xs : List ℤ) → AllWithin (λ x. p x ≡ true) xs 0 (length xs) → xs ≡ filter p xs
all_pass p [] all = refl
all_pass p (x ∷ xs) all =
    ap (λ l. x ∷ l) (all_pass p xs (λ k d low high. all (suc k) d (omega arith) (omega arith))) ∙ ap (λ b. cond b (x ∷ filter p xs) (filter p xs)) (sym (all 0 x (omega arith) (omega arith)))

-- what passes stands in front
pub front_pass : (p : ℤ → Bool) (i : ℕ) (xs : List ℤ) → AllWithin (λ x. p x ≡ true) xs 0 i → AllWithin (λ x. p x ≡ false) xs i (length xs) → i ≤ length xs → take i xs ≡ filter p xs
front_pass p zero xs all none within = none_pass p xs none
front_pass p (suc i) [] all none within = refl
front_pass p (suc i) (x ∷ xs) all none within =
    ap (λ l. x ∷ l) (front_pass p i xs (λ k d low high. all (suc k) d (omega arith) (omega arith)) (λ k d low high. none (suc k) d (omega arith) (omega arith)) (omega arith))
    ∙ ap (λ b. cond b (x ∷ filter p xs) (filter p xs)) (sym (all 0 x (omega arith) (omega arith)))

-- what passes stands at the back
pub back_pass : (p : ℤ → Bool) (i : ℕ) (xs : List ℤ) → AllWithin (λ x. p x ≡ false) xs 0 i → AllWithin (λ x. p x ≡ true) xs i (length xs) → i ≤ length xs → drop i xs ≡ filter p xs
back_pass p zero xs none all within = all_pass p xs all
back_pass p (suc i) [] none all within = refl
back_pass p (suc i) (x ∷ xs) none all within =
    back_pass p i xs (λ k d low high. none (suc k) d (omega arith) (omega arith)) (λ k d low high. all (suc k) d (omega arith) (omega arith)) (omega arith)
    ∙ ap (λ b. cond b (x ∷ filter p xs) (filter p xs)) (sym (none 0 x (omega arith) (omega arith)))

-- rising keys can be searched
pub searchable : (xs : List ℤ) (key : ℤ) → IsStrictlySortedBy int_cmp xs → IsNonDecreasingBy (λ x. ordering_index (int_cmp x key)) xs
searchable xs key rise =
    searchable_from_sorted int_cmp_total (λ x. x) xs key
    (λ k d low high. ap is_lt (int_cmp_total.antisymm (get_or xs (k + 1) d) (get_or xs k d) ∙ ap ordering_reverse (Less-from_sorted int_cmp xs k (k + 1) d rise (omega arith) (omega arith))))

-- where the key is not found
pub below_gap : (xs : List ℤ) (key : ℤ) (i : ℕ) → i ≤ length xs → AllWithin (λ x. int_cmp x key ≡ Less) xs 0 i → AllWithin (λ x. int_cmp x key ≡ Greater) xs i (length xs) → take i xs ≡ below key xs
below_gap xs key i within front back = front_pass (λ x. is_lt (int_cmp x key)) i xs (λ k d low high. ap is_lt (front k d low high)) (λ k d low high. ap is_lt (back k d low high)) within

pub above_gap : (xs : List ℤ) (key : ℤ) (i : ℕ) → i ≤ length xs → AllWithin (λ x. int_cmp x key ≡ Less) xs 0 i → AllWithin (λ x. int_cmp x key ≡ Greater) xs i (length xs) → drop i xs ≡ above key xs
above_gap xs key i within front back = back_pass (λ x. is_gt (int_cmp x key)) i xs (λ k d low high. ap is_gt (front k d low high)) (λ k d low high. ap is_gt (back k d low high)) within

-- where it is found
before_hit : (xs : List ℤ) (key : ℤ) (i : ℕ) → IsStrictlySortedBy int_cmp xs → i < length xs → HoldsAt (λ x. int_cmp x key ≡ Equal) xs i → AllWithin (λ x. int_cmp x key ≡ Less) xs 0 i
before_hit xs key i rise within hit k d low high =
    subst (λ y. int_cmp (get_or xs k d) y ≡ Less) (exact_signed (get_or xs i d) key (hit d)) (Less-from_sorted int_cmp xs k i d rise high within)

after_hit : (xs : List ℤ) (key : ℤ) (i : ℕ) → IsStrictlySortedBy int_cmp xs → i < length xs → HoldsAt (λ x. int_cmp x key ≡ Equal) xs i
    → AllWithin (λ x. int_cmp x key ≡ Greater) xs (i + 1) (length xs)
after_hit xs key i rise within hit k d low high =
    int_cmp_total.antisymm (get_or xs k d) key
    ∙ ap ordering_reverse (subst (λ y. int_cmp y (get_or xs k d) ≡ Less) (exact_signed (get_or xs i d) key (hit d)) (Less-from_sorted int_cmp xs i k d rise (omega arith) high))

-- a fact of a place, and of all places after it
from_here : (P : ℤ → Type 0) (xs : List ℤ) (i n : ℕ) → HoldsAt P xs i → AllWithin P xs (i + 1) n → AllWithin P xs i n
from_here P xs i n here later k d low high = ⊎_elim (λ e. subst (λ j. P (get_or xs j d)) e (here d)) (λ ne. later k d (omega (arith, ne)) high) (cases_eq i k)

up_to : (P : ℤ → Type 0) (xs : List ℤ) (i : ℕ) → AllWithin P xs 0 i → HoldsAt P xs i → AllWithin P xs 0 (i + 1)
up_to P xs i front here k d low high = ⊎_elim (λ e. subst (λ j. P (get_or xs j d)) e (here d)) (λ ne. front k d low (omega (arith, ne))) (cases_eq i k)

pub below_hit : (xs : List ℤ) (key : ℤ) (i : ℕ) → IsStrictlySortedBy int_cmp xs → i < length xs → HoldsAt (λ x. int_cmp x key ≡ Equal) xs i → take i xs ≡ below key xs
below_hit xs key i rise within hit =
    front_pass (λ x. is_lt (int_cmp x key)) i xs (λ k d low high. ap is_lt (before_hit xs key i rise within hit k d low high))
    (from_here (λ x. is_lt (int_cmp x key) ≡ false) xs i (length xs) (λ d. ap is_lt (hit d)) (λ k d low high. ap is_lt (after_hit xs key i rise within hit k d low high))) (omega arith)

pub above_hit : (xs : List ℤ) (key : ℤ) (i : ℕ) → IsStrictlySortedBy int_cmp xs → i < length xs → HoldsAt (λ x. int_cmp x key ≡ Equal) xs i → drop (i + 1) xs ≡ above key xs
above_hit xs key i rise within hit =
    back_pass (λ x. is_gt (int_cmp x key)) (i + 1) xs
    (up_to (λ x. is_gt (int_cmp x key) ≡ false) xs i (λ k d low high. ap is_gt (before_hit xs key i rise within hit k d low high)) (λ d. ap is_gt (hit d)))
    (λ k d low high. ap is_gt (after_hit xs key i rise within hit k d low high)) (omega arith)
