-- Places in an index: their order, and where the objects of a part are.
use Rattle.std.proofs.Common.{◌≡◌, refl, ap, ap₂, sym, ◌∙◌, ℕ, zero, suc, ℤ, Bool, true, false, not, ◌&&◌, ◌||◌, cond, List, [], ◌∷◌, map, Option, Some, None, IsTrue, int_eq, Ok}
use Rattle.std.proofs.Common.{Err, Bor, length, get_or, ◌<◌, nat_lt, arith}
use Rattle.std.specs.Prelude.{option_map, ◌==◌}
use Rattle.std.specs.Option.{option_eq}
use Rattle.std.specs.Cmp.Lexicographic.{slice_cmp}
use Rattle.std.specs.declared.cmp.Ordering.{Ordering}
use Rattle.std.specs.declared.cmp.Ordering.TheVariants.{Less, Equal, Greater}
use Rattle.std.specs.declared.ops.Bound.{Bound}
use Rattle.std.specs.Ordering.{is_eq, is_lt, is_le, is_gt, nat_cmp, int_cmp, ordering_then, ordering_reverse}
use Rattle.std.specs.BTreeMap.{is_at}
use Rattle.std.specs.BTreeMap.Range.{range_contains, is_from_start, is_past_end}
use Rattle.std.specs.BTreeSet.{BTreeSet, contains, keys_between}
use Rattle.std.specs.List.{list_any, filter}
use Rattle.std.proofs.lemmas.Bool.Decides.{Decides-int_eq, Decides-eqb}
use Rattle.std.proofs.lemmas.Cmp.{nat_cmp_total, nat_list_cmp_total, upto}
use Rattle.hp_model.specs.Values as V
use Rattle.hp_model.specs.Values.{Outcome, integer, text, fits_64, ◌>>=◌}
use Rattle.hp_model.specs.ClassParts.{reaches, stays_below, lies_within}
use Rattle.hp_value.specs.declared.class_part.Bounds.{Bounds}
use Rattle.hp_value.specs.declared.class_part.Bounds.TheVariants.{Numbers, Texts}
use Rattle.hp_value.specs.Mapped.{low, high}
use Rattle.hp_store.specs.declared.place.Place.{Place}
use Rattle.hp_store.specs.declared.place.Place.TheVariants.{Number, Other, Text}
use Rattle.hp_store.specs.contracts.place.PlaceOrd.TheImpl.Laws.{total-law}
use Rattle.hp_store.specs.Indexed.{is_between}
use Rattle.hp_store.specs.Parts.{bound_of, is_among}
use Rattle.hp_store.specs.Places.{place_cmp, start, key_at, place_of, value_place, is_other}
use Rattle.hp_store.proofs.Cells.{nat_at, int_at, then_both}
use Rattle.hp_store.proofs.Covered.{outside}
use Rattle.hp_store.proofs.Ranged.{least, greatest, above_least, below_greatest}

first : (a b : Bool) → (a && b) ≡ true → a ≡ true
first true b h = refl
first false b h = h

second : (a b : Bool) → (a && b) ≡ true → b ≡ true
second true b h = h
second false b h = cc

-- ---- one place

one_text : (s t : List ℕ) → is_eq (slice_cmp nat_cmp s t) ≡ true → s ≡ t
one_text [] [] h = refl
one_text [] (y ∷ t) h = cc
one_text (x ∷ s) [] h = cc
one_text (x ∷ s) (y ∷ t) h =
    let both : (is_eq (nat_cmp x y) && is_eq (slice_cmp nat_cmp s t)) ≡ true = sym (then_both (nat_cmp x y) (slice_cmp nat_cmp s t)) ∙ h in
    ap₂ (λ z l. z ∷ l) ((Decides-eqb x y).0 (sym (nat_at x y) ∙ first (is_eq (nat_cmp x y)) (is_eq (slice_cmp nat_cmp s t)) both))
    (one_text s t (second (is_eq (nat_cmp x y)) (is_eq (slice_cmp nat_cmp s t)) both))

one_number : (k l : ℤ) → is_eq (int_cmp k l) ≡ true → k ≡ l
one_number k l h = (Decides-int_eq k l).0 (sym (int_at k l) ∙ h)

-- the order tells places apart
pub one_place : (p q : Place) → is_at (place_cmp p) q ≡ true → p ≡ q
one_place (Number n k) (Number m l) h =
    let both : (is_eq (int_cmp n m) && is_eq (int_cmp k l)) ≡ true = sym (then_both (int_cmp n m) (int_cmp k l)) ∙ h in
    ap₂ Number (one_number n m (first (is_eq (int_cmp n m)) (is_eq (int_cmp k l)) both)) (one_number k l (second (is_eq (int_cmp n m)) (is_eq (int_cmp k l)) both))
one_place (Other k) (Other l) h = ap Other (one_number k l h)
one_place (Text s k) (Text t l) h =
    let both : (is_eq (slice_cmp nat_cmp s t) && is_eq (int_cmp k l)) ≡ true = sym (then_both (slice_cmp nat_cmp s t) (int_cmp k l)) ∙ h in
    ap₂ Text (one_text s t (first (is_eq (slice_cmp nat_cmp s t)) (is_eq (int_cmp k l)) both)) (one_number k l (second (is_eq (slice_cmp nat_cmp s t)) (is_eq (int_cmp k l)) both))
one_place (Number n k) (Other l) h = cc
one_place (Number n k) (Text t l) h = cc
one_place (Other k) (Number m l) h = cc
one_place (Other k) (Text t l) h = cc
one_place (Text s k) (Number m l) h = cc
one_place (Text s k) (Other l) h = cc

-- ---- the places in a range

pub found_between : (places : BTreeSet Place) (lo hi : Bound Place) (range : List Place) (p : Place) → range ≡ keys_between place_cmp lo hi places → contains place_cmp places p ≡ true
    → range_contains place_cmp lo hi p ≡ true → is_among (map key_at range) (key_at p) ≡ true
found_between places lo hi range p is there within = ap (λ ps. is_among (map key_at ps) (key_at p)) is ∙ among places.keys there
  where
    or_true : (a : Bool) → (a || true) ≡ true
    or_true true = refl
    or_true false = refl

    among : (ps : List Place) → list_any (is_at (place_cmp p)) ps ≡ true → is_among (map key_at (filter (range_contains place_cmp lo hi) ps)) (key_at p) ≡ true
    among [] there = cc
    among (q ∷ ps) there = by (among ps) (is_at (place_cmp p) q) refl (range_contains place_cmp lo hi q) refl there
      where
        later : List Place
        later = filter (range_contains place_cmp lo hi) ps

        skipped : (inside : Bool) → is_among (map key_at later) (key_at p) ≡ true → is_among (map key_at (cond inside (q ∷ later) later)) (key_at p) ≡ true
        skipped true there = ap (λ b. int_eq (key_at p) (key_at q) || b) there ∙ or_true (int_eq (key_at p) (key_at q))
        skipped false there = there

        by : (list_any (is_at (place_cmp p)) ps ≡ true → is_among (map key_at later) (key_at p) ≡ true) → (same : Bool) → is_at (place_cmp p) q ≡ same → (inside : Bool)
            → range_contains place_cmp lo hi q ≡ inside → (same || list_any (is_at (place_cmp p)) ps) ≡ true → is_among (map key_at (cond inside (q ∷ later) later)) (key_at p) ≡ true
        by rest true is true inside h = ap (λ b. b || is_among (map key_at later) (key_at p)) ((Decides-int_eq (key_at p) (key_at q)).1 (ap key_at (one_place p q is)))
        by rest true is false inside h = absurd (cc (sym within ∙ ap (range_contains place_cmp lo hi) (one_place p q is) ∙ inside))
        by rest false is inside at h = skipped inside (rest h)

-- ---- one place less

pub taken_out : (places new : BTreeSet Place) (old now : Option Place) (gone : Place) (r : Bool) (same : Place → Place → Bool) → ((p : Place) → same p p ≡ true) → old ≡ Some gone → r ≡ true
    → r ≡ not (option_eq same now (Some gone)) → ((p : Place) → contains place_cmp new p ≡ cond (is_at (place_cmp gone) p) false (contains place_cmp places p))
    → (p : Place) → contains place_cmp places p ≡ true → (old ≡ Some p → now ≡ Some p) → contains place_cmp new p ≡ true
taken_out places new old now gone r same itself is differs told step p there moved = step p ∙ by (is_at (place_cmp gone) p) refl
  where
    by : (b : Bool) → is_at (place_cmp gone) p ≡ b → cond b false (contains place_cmp places p) ≡ true
    by false at = there
    by true at =
        let one : gone ≡ p = one_place gone p at in
        absurd (cc (sym differs ∙ told ∙ ap (λ o. not (option_eq same o (Some gone))) (moved (is ∙ ap Some one) ∙ ap Some (sym one)) ∙ ap not (itself gone)))

-- ---- the first bytes of texts

then_le : (r s : Ordering) → is_le r ≡ true → is_le s ≡ true → is_le (ordering_then r s) ≡ true
then_le Less s h k = refl
then_le Equal s h k = k
then_le Greater s h k = h

then_lt : (r s : Ordering) → is_lt r ≡ false → is_lt s ≡ false → is_lt (ordering_then r s) ≡ false
then_lt Less s h k = h
then_lt Equal s h k = k
then_lt Greater s h k = refl

no_text_below : (t : List ℕ) → is_lt (slice_cmp nat_cmp t []) ≡ false
no_text_below [] = refl
no_text_below (x ∷ t) = refl

zero_le : (b c : Bool) → is_le (cond b Less (cond c Equal Greater)) ≡ (b || c)
zero_le true c = refl
zero_le false true = refl
zero_le false false = refl

zero_first : (y : ℕ) → is_le (nat_cmp 0 y) ≡ true
zero_first zero = refl
zero_first (suc y) = zero_le (nat_lt 0 (suc y)) (0 == suc y) ∙ grind arith

-- a text that isn't below another begins with what isn't below
start_le : (n : ℕ) (s t : List ℕ) → is_lt (slice_cmp nat_cmp t s) ≡ false → is_le (slice_cmp nat_cmp (start n s) (start n t)) ≡ true
start_le zero s t h = refl
start_le (suc n) [] [] h = start_le n [] [] refl
start_le (suc n) [] (y ∷ t) h = then_le (nat_cmp 0 y) (slice_cmp nat_cmp (start n []) (start n t)) (zero_first y) (start_le n [] t (no_text_below t))
start_le (suc n) (x ∷ s) [] h = cc
start_le (suc n) (x ∷ s) (y ∷ t) h = by (start_le n s t) (nat_cmp y x) (nat_cmp x y) (nat_cmp_total.antisymm x y) h
  where
    by : (is_lt (slice_cmp nat_cmp t s) ≡ false → is_le (slice_cmp nat_cmp (start n s) (start n t)) ≡ true) → (back r : Ordering) → r ≡ ordering_reverse back
        → is_lt (ordering_then back (slice_cmp nat_cmp t s)) ≡ false → is_le (ordering_then r (slice_cmp nat_cmp (start n s) (start n t))) ≡ true
    by rest Less r is h = cc
    by rest Equal r is h = ap (λ o. is_le (ordering_then o (slice_cmp nat_cmp (start n s) (start n t)))) is ∙ rest h
    by rest Greater r is h = ap (λ o. is_le (ordering_then o (slice_cmp nat_cmp (start n s) (start n t)))) is

start_lt : (n : ℕ) (s t : List ℕ) → is_lt (slice_cmp nat_cmp s t) ≡ false → is_lt (slice_cmp nat_cmp (start n s) (start n t)) ≡ false
start_lt n s t h = ap is_lt (nat_list_cmp_total.antisymm (start n s) (start n t)) ∙ turned (slice_cmp nat_cmp (start n t) (start n s)) (start_le n t s h)
  where
    turned : (r : Ordering) → is_le r ≡ true → is_lt (ordering_reverse r) ≡ false
    turned Less h = refl
    turned Equal h = refl
    turned Greater h = cc

-- ---- an object outside the bounds

one_ok : (a b : Bool) → ◌≡◌ {A = Outcome Bool} (Ok a) (Ok b) → a ≡ b
one_ok a b e = cc

pub key_of_place : (key : ℤ) (o : Outcome V.Value) → key_at (place_of key o) ≡ key
key_of_place key (Ok (integer n)) = refl
key_of_place key (Ok (V.boolean b)) = refl
key_of_place key (Ok (text t)) = refl
key_of_place key (Err c) = refl

and_not : (a b : Bool) → a ≡ true → b ≡ false → (a && not b) ≡ true
and_not a b h k = ap₂ (λ x y. x && not y) h k

number_from : (l : Option ℤ) (n key : ℤ) → IsTrue (fits_64 key) → is_from_start int_cmp (bound_of l) n ≡ true
    → is_from_start place_cmp (bound_of (value_place least (option_map integer l))) (Number n key) ≡ true
number_from None n key fit h = refl
number_from (Some l) n key fit h = then_le (int_cmp l n) (int_cmp least key) h (above_least key fit)

number_to : (h : Option ℤ) (n key : ℤ) → IsTrue (fits_64 key) → is_past_end int_cmp (bound_of h) n ≡ false
    → is_past_end place_cmp (bound_of (value_place greatest (option_map integer h))) (Number n key) ≡ false
number_to None n key fit is = refl
number_to (Some h) n key fit is = then_lt (int_cmp h n) (int_cmp greatest key) is (below_greatest key fit)

number_out : (l h : Option ℤ) (n key : ℤ) → IsTrue (fits_64 key) → is_between (value_place least (option_map integer l)) (value_place greatest (option_map integer h)) (Number n key) ≡ false
    → lies_within (option_map integer l) (option_map integer h) (integer n) ≡ Ok false
number_out l h n key fit out = by (is_from_start int_cmp (bound_of l) n) refl (is_past_end int_cmp (bound_of h) n) refl
  where
    by : (a : Bool) → is_from_start int_cmp (bound_of l) n ≡ a → (b : Bool) → is_past_end int_cmp (bound_of h) n ≡ b → lies_within (option_map integer l) (option_map integer h) (integer n) ≡ Ok false
    by true from false to =
        absurd (cc (sym (and_not (is_from_start place_cmp (bound_of (value_place least (option_map integer l))) (Number n key))
        (is_past_end place_cmp (bound_of (value_place greatest (option_map integer h))) (Number n key)) (number_from l n key fit from) (number_to h n key fit to)) ∙ out))
    by true from true to = outside l h n (ap₂ (λ x y. x && not y) from to)
    by false from b to = outside l h n (ap (λ x. x && not (is_past_end int_cmp (bound_of h) n)) from)

text_from : (l : Option (Bor (List ℕ))) (t : List ℕ) (key : ℤ) → IsTrue (fits_64 key) → (b : Bool) → reaches (option_map (λ s. text s.now) l) (text t) ≡ Ok b
    → b ≡ true → is_from_start place_cmp (bound_of (value_place least (option_map (λ s. text s.now) l))) (Text (start 32 t) key) ≡ true
text_from None t key fit b is h = refl
text_from (Some s) t key fit b is h = by (is_lt (slice_cmp nat_cmp t s.now)) refl
  where
    by : (c : Bool) → is_lt (slice_cmp nat_cmp t s.now) ≡ c → is_le (ordering_then (slice_cmp nat_cmp (start 32 s.now) (start 32 t)) (int_cmp least key)) ≡ true
    by false below = then_le (slice_cmp nat_cmp (start 32 s.now) (start 32 t)) (int_cmp least key) (start_le 32 s.now t below) (above_least key fit)
    by true below = absurd (cc (sym (one_ok b false (sym is ∙ ap (λ c. Ok (not c)) below)) ∙ h))

text_to : (l : Option (Bor (List ℕ))) (t : List ℕ) (key : ℤ) → IsTrue (fits_64 key) → (b : Bool) → stays_below (option_map (λ s. text s.now) l) (text t) ≡ Ok b
    → b ≡ true → is_past_end place_cmp (bound_of (value_place greatest (option_map (λ s. text s.now) l))) (Text (start 32 t) key) ≡ false
text_to None t key fit b is h = refl
text_to (Some s) t key fit b is h = by (is_lt (slice_cmp nat_cmp s.now t)) refl
  where
    by : (c : Bool) → is_lt (slice_cmp nat_cmp s.now t) ≡ c → is_lt (ordering_then (slice_cmp nat_cmp (start 32 s.now) (start 32 t)) (int_cmp greatest key)) ≡ false
    by false below = then_lt (slice_cmp nat_cmp (start 32 s.now) (start 32 t)) (int_cmp greatest key) (start_lt 32 s.now t below) (below_greatest key fit)
    by true below = absurd (cc (sym (one_ok b false (sym is ∙ ap (λ c. Ok (not c)) below)) ∙ h))

-- whether a text reaches a bound, and stays below one
from_told : (l : Option (Bor (List ℕ))) (t : List ℕ) → (b : Bool) × (reaches (option_map (λ s. text s.now) l) (text t) ≡ Ok b)
from_told None t = (true, refl)
from_told (Some s) t = (not (is_lt (slice_cmp nat_cmp t s.now)), refl)

to_told : (l : Option (Bor (List ℕ))) (t : List ℕ) → (b : Bool) × (stays_below (option_map (λ s. text s.now) l) (text t) ≡ Ok b)
to_told None t = (true, refl)
to_told (Some s) t = (not (is_lt (slice_cmp nat_cmp s.now t)), refl)

text_out : (l h : Option (Bor (List ℕ))) (t : List ℕ) (key : ℤ) → IsTrue (fits_64 key)
    → is_between (value_place least (option_map (λ s. text s.now) l)) (value_place greatest (option_map (λ s. text s.now) h)) (Text (start 32 t) key) ≡ false
    → lies_within (option_map (λ s. text s.now) l) (option_map (λ s. text s.now) h) (text t) ≡ Ok false
text_out l h t key fit out =
    ap (λ o. o >>= λ a. stays_below (option_map (λ s. text s.now) h) (text t) >>= λ b. Ok (a && b)) (from_told l t).1
    ∙ ap (λ o. o >>= λ b. Ok ((from_told l t).0 && b)) (to_told h t).1 ∙ ap Ok (by (from_told l t).0 refl (to_told h t).0 refl)
  where
    by : (a : Bool) → (from_told l t).0 ≡ a → (b : Bool) → (to_told h t).0 ≡ b → (a && b) ≡ false
    by false from b to = refl
    by true from false to = refl
    by true from true to =
        absurd (cc (sym (and_not (is_from_start place_cmp (bound_of (value_place least (option_map (λ s. text s.now) l))) (Text (start 32 t) key))
        (is_past_end place_cmp (bound_of (value_place greatest (option_map (λ s. text s.now) h))) (Text (start 32 t) key))
        (text_from l t key fit (from_told l t).0 (from_told l t).1 from) (text_to h t key fit (to_told h t).0 (to_told h t).1 to)) ∙ out))

-- a value of the bounds' kind whose place is not between theirs
pub place_out : (b : Bounds) (o : Outcome V.Value) (key : ℤ) → IsTrue (fits_64 key) → is_other b (place_of key o) ≡ false
    → is_between (value_place least (low b)) (value_place greatest (high b)) (place_of key o) ≡ false → (o >>= λ v. lies_within (low b) (high b) v) ≡ Ok false
place_out (Numbers l h) (Ok (integer n)) key fit same out = number_out l h n key fit out
place_out (Numbers l h) (Ok (V.boolean c)) key fit same out = cc
place_out (Numbers l h) (Ok (text t)) key fit same out = cc
place_out (Numbers l h) (Err c) key fit same out = cc
place_out (Texts l h) (Ok (integer n)) key fit same out = cc
place_out (Texts l h) (Ok (V.boolean c)) key fit same out = cc
place_out (Texts l h) (Ok (text t)) key fit same out = text_out l h t key fit out
place_out (Texts l h) (Err c) key fit same out = cc

-- ---- the first bytes of a text, as the code takes them

pub start_is : (n : ℕ) (first bytes : List ℕ) → length first ≡ n → ((k : ℕ) → k < n → get_or first k 0 ≡ get_or bytes k 0) → first ≡ start n bytes
start_is zero [] bytes has each = refl
start_is zero (x ∷ first) bytes has each = absurd (omega (arith, has))
start_is (suc n) [] bytes has each = absurd (omega (arith, has))
start_is (suc n) (x ∷ first) [] has each = ap₂ (λ z l. z ∷ l) (each 0 (omega arith)) (start_is n first [] (omega (arith, has)) (λ k within. each (suc k) (omega (arith, within))))
start_is (suc n) (x ∷ first) (y ∷ bytes) has each = ap₂ (λ z l. z ∷ l) (each 0 (omega arith)) (start_is n first bytes (omega (arith, has)) (λ k within. each (suc k) (omega (arith, within))))

-- ---- bounds that are crossed

pub crossed : (lo hi : Option Place) (a b : Place) (r : Bool) → r ≡ is_gt (place_cmp a b) → lo ≡ Some a → hi ≡ Some b → IsTrue r → (p : Place) → is_between lo hi p ≡ false
crossed lo hi a b r is from to above p = ap₂ (λ l h. is_between l h p) from to ∙ by (is_le (place_cmp a p)) refl (is_lt (place_cmp b p)) refl
  where
    not_above : (o : Ordering) → is_le o ≡ true → is_gt o ≡ false
    not_above Less h = refl
    not_above Equal h = refl
    not_above Greater h = cc

    turned : (o : Ordering) → is_lt o ≡ false → is_gt (ordering_reverse o) ≡ false
    turned Less h = cc
    turned Equal h = refl
    turned Greater h = refl

    by : (c : Bool) → is_le (place_cmp a p) ≡ c → (d : Bool) → is_lt (place_cmp b p) ≡ d → (is_le (place_cmp a p) && not (is_lt (place_cmp b p))) ≡ false
    by false low d high = ap (λ x. x && not (is_lt (place_cmp b p))) low
    by true low true high = ap₂ (λ x y. x && not y) low high
    by true low false high =
        absurd (cc (sym above ∙ is ∙ upto total-law a p b (not_above (place_cmp a p) low) (ap is_gt (total-law.antisymm p b) ∙ turned (place_cmp b p) high)))
