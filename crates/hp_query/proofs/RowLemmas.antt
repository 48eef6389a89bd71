-- The rows of a class among objects in order.
use Rattle.std.proofs.Common.{◌≡◌, ℕ, ℤ, Bool, true, false, ◌==◌, ◌&&◌, ◌||◌, cond, List, [], ◌∷◌, map, filter, Option, Some, None, is_some, refl, sym, ap, ◌∙◌, subst}
use Rattle.std.specs.declared.cmp.Ordering.{Ordering}
use Rattle.std.specs.declared.cmp.Ordering.TheVariants.{Less, Equal, Greater}
use Rattle.std.specs.Ordering.{is_eq, nat_cmp, int_cmp, int_eq, ordering_then}
use Rattle.std.specs.Cmp.{both_ways}
use Rattle.std.specs.List.{AllByRecursion, list_any}
use Rattle.std.specs.List.Sorted.{IsStrictlySortedBy}
use Rattle.std.specs.Map.{lookup}
use Rattle.std.specs.BTreeMap.{is_at}
use Rattle.std.proofs.lemmas.Bool.{eqb-true, eq-eqb}
use Rattle.std.proofs.lemmas.Bool.Decides.{Decides-int_eq}
use Rattle.std.proofs.lemmas.Cmp.{nat_cmp_total, int_cmp_total, int_eq_equiv, tied_itself}
use Rattle.std.proofs.lemmas.Map.Keys.{sorted_head, sorted_tail}
use Rattle.std.proofs.lemmas.Map.Lookups.{exact_unsigned, exact_signed, btree_set_from_contains}
use Rattle.hp_model.specs.Values.{Row, KeyedRow}
use Rattle.hp_model.specs.State.{Objects, ObjectName, compare_names, object_name, find_object, rows_of, class_keys}
use Rattle.hp_query.specs.Looks.{ObjectsRise}

then_equal : (r s : Ordering) → is_eq (ordering_then r s) ≡ true → (r ≡ Equal) × (s ≡ Equal)
then_equal Less s h = cc
then_equal Equal Less h = cc
then_equal Equal Equal h = (refl, refl)
then_equal Equal Greater h = cc
then_equal Greater s h = cc

-- names that compare equal are equal
exact_name : (a b : ObjectName) → is_eq (compare_names a b) ≡ true → a ≡ b
exact_name a b h =
    let both = then_equal (nat_cmp a.class b.class) (int_cmp a.key b.key) h in
    (λ i. record { class = exact_unsigned a.class b.class both.0 i; key = exact_signed a.key b.key both.1 i })

abbrev find_named : ObjectName → Objects → Option Row
find_named name os = lookup (is_at (compare_names name)) os

abbrev names : Objects → List ObjectName
names os = map (λ (o : ObjectName × Row). o.0) os

-- a name below all others isn't among them
absent_above : (name : ObjectName) (os : Objects) → AllByRecursion (λ y. compare_names name y ≡ Less) (names os) → find_named name os ≡ None
absent_above name [] above = refl
absent_above name (o ∷ os) above = ap (λ r. cond (is_eq r) (Some o.1) (find_named name os)) above.0 ∙ absent_above name os above.1

-- what is found after the first object is found with it
find_later : (name : ObjectName) (o : ObjectName × Row) (os : Objects) (row : Row) → ObjectsRise (o ∷ os) → find_named name os ≡ Some row → find_named name (o ∷ os) ≡ Some row
find_later name o os row rise found = by (is_at (compare_names name) o.0) refl
  where
    by : (b : Bool) → is_at (compare_names name) o.0 ≡ b → cond b (Some o.1) (find_named name os) ≡ Some row
    by true same =
        let gone : find_named name os ≡ None = subst (λ n. find_named n os ≡ None) (sym (exact_name name o.0 same)) (absent_above o.0 os (sorted_head compare_names o.0 (names os) rise)) in
        absurd (some_none (sym found ∙ gone))
      where
        some_none : {x : Row} → Some x ≡ None → ⊥
        some_none h = cc
    by false same = found

-- ---- a class's rows are found by their keys

nat_same : (a b : ℕ) → (a == b) ≡ true → a ≡ b
nat_same a b h = eqb-true a b h

compared_itself : (name : ObjectName) → compare_names name name ≡ Equal
compared_itself name =
    ap (λ r. ordering_then r (int_cmp name.key name.key)) (tied_itself nat_cmp_total name.class) ∙ tied_itself int_cmp_total name.key

-- each row is what is found at its key
abbrev pub AreFound : Objects → ℕ → List KeyedRow → Type 0
AreFound objects class rows = AllByRecursion (λ (r : KeyedRow). find_object objects class r.key ≡ Some r.row) rows

found_later : (class : ℕ) (o : ObjectName × Row) (os : Objects) (rows : List KeyedRow) → ObjectsRise (o ∷ os) → AreFound os class rows → AreFound (o ∷ os) class rows
found_later class o os [] rise found = tt
found_later class o os (r ∷ rs) rise found =
    (find_later (object_name class r.key) o os r.row rise found.0, found_later class o os rs rise found.1)

pub rows_found : (class : ℕ) (os : Objects) → ObjectsRise os → AreFound os class (rows_of class os)
rows_found class [] rise = tt
rows_found class (o ∷ os) rise =
    by (o.0.class == class) refl (found_later class o os (rows_of class os) rise (rows_found class os (sorted_tail compare_names o.0 (names os) rise)))
  where
    rest : Objects
    rest = filter (λ (p : ObjectName × Row). p.0.class == class) os

    by : (b : Bool) → (o.0.class == class) ≡ b → AreFound (o ∷ os) class (rows_of class os)
        → AreFound (o ∷ os) class (map (λ (p : ObjectName × Row). record { key = p.0.key; row = p.1 }) (cond b (o ∷ rest) rest))
    by true same later =
        let here : compare_names (object_name class o.0.key) o.0 ≡ Equal = subst (λ c. compare_names (object_name c o.0.key) o.0 ≡ Equal) (nat_same o.0.class class same) (compared_itself o.0) in
        (ap (λ r. cond (is_eq r) (Some o.1) (find_named (object_name class o.0.key) os)) here, later)
    by false same later = later

-- ---- a class's keys are those of its objects, in ascending order

abbrev keyed : ObjectName × Row → KeyedRow
keyed o = record { key = o.0.key; row = o.1 }

abbrev of_class : ℕ → Objects → Objects
of_class class os = filter (λ (o : ObjectName × Row). o.0.class == class) os

abbrev keys_in : Objects → List ℤ
keys_in os = map (λ (r : KeyedRow). r.key) (map keyed os)

same_class : (a b : ℕ) (k l : ℤ) → (b == a) ≡ true → compare_names (object_name a k) (object_name b l) ≡ int_cmp k l
same_class a b k l same =
    subst (λ c. ordering_then (nat_cmp a c) (int_cmp k l) ≡ int_cmp k l) (sym (nat_same b a same)) (ap (λ r. ordering_then r (int_cmp k l)) (tied_itself nat_cmp_total a))

-- the keys of later objects of the class are above an object's
above_keys : (class : ℕ) (o : ObjectName × Row) (os : Objects) → (o.0.class == class) ≡ true → AllByRecursion (λ y. compare_names o.0 y ≡ Less) (names os)
    → AllByRecursion (λ l. int_cmp o.0.key l ≡ Less) (keys_in (of_class class os))
above_keys class o [] same above = tt
above_keys class o (p ∷ ps) same above = by (p.0.class == class) refl (above_keys class o ps same above.1)
  where
    by : (b : Bool) → (p.0.class == class) ≡ b → AllByRecursion (λ l. int_cmp o.0.key l ≡ Less) (keys_in (of_class class ps))
        → AllByRecursion (λ l. int_cmp o.0.key l ≡ Less) (keys_in (cond b (p ∷ of_class class ps) (of_class class ps)))
    by true here rest =
        let one : o.0.class ≡ p.0.class = nat_same o.0.class class same ∙ sym (nat_same p.0.class class here) in
        (sym (same_class o.0.class p.0.class o.0.key p.0.key (eq-eqb p.0.class o.0.class (sym one))) ∙ above.0, rest)
    by false here rest = rest

pub class_keys_rise : (class : ℕ) (os : Objects) → ObjectsRise os → IsStrictlySortedBy int_cmp (class_keys class os)
unfolding IsStrictlySortedBy
class_keys_rise class [] rise = tt
class_keys_rise class (o ∷ os) rise = by (o.0.class == class) refl (class_keys_rise class os rise.1)
  where
    by : (b : Bool) → (o.0.class == class) ≡ b → IsStrictlySortedBy int_cmp (class_keys class os) → IsStrictlySortedBy int_cmp (keys_in (cond b (o ∷ of_class class os) (of_class class os)))
    by true same rest = (above_keys class o os same rise.0, rest)
    by false same rest = rest

then_both : (r s : Ordering) → is_eq (ordering_then r s) ≡ (is_eq r && is_eq s)
then_both Less s = refl
then_both Equal s = refl
then_both Greater s = refl

equal_from_is_eq : (r : Ordering) → is_eq r ≡ true → r ≡ Equal
equal_from_is_eq Less h = cc
equal_from_is_eq Equal h = refl
equal_from_is_eq Greater h = cc

pub nat_at : (a b : ℕ) → is_eq (nat_cmp a b) ≡ (b == a)
nat_at a b =
    both_ways (is_eq (nat_cmp a b)) (b == a)
    (λ h. eq-eqb b a (sym (exact_unsigned a b (equal_from_is_eq (nat_cmp a b) h))))
    (λ h. subst (λ c. is_eq (nat_cmp a c) ≡ true) (sym (nat_same b a h)) (ap is_eq (tied_itself nat_cmp_total a)))

-- an object stands at a name exactly where it is of the class and has the key
at_name : (class : ℕ) (k : ℤ) (o : ObjectName × Row) → is_at (compare_names (object_name class k)) o.0 ≡ ((o.0.class == class) && int_eq k o.0.key)
at_name class k o = then_both (nat_cmp class o.0.class) (int_cmp k o.0.key) ∙ ap (λ b. b && int_eq k o.0.key) (nat_at class o.0.class)

pub class_keys_has : (class : ℕ) (k : ℤ) (os : Objects) → list_any (int_eq k) (class_keys class os) ≡ is_some (find_object os class k)
class_keys_has class k [] = refl
class_keys_has class k (o ∷ os) =
    by (o.0.class == class) (class_keys_has class k os)
    ∙ sym (ap (λ b. is_some (cond b (Some o.1) (find_object os class k))) (at_name class k o))
  where
    hit : (c : Bool) → list_any (int_eq k) (class_keys class os) ≡ is_some (find_object os class k)
        → (c || list_any (int_eq k) (class_keys class os)) ≡ is_some (cond c (Some o.1) (find_object os class k))
    hit true rest = refl
    hit false rest = rest

    by : (b : Bool) → list_any (int_eq k) (class_keys class os) ≡ is_some (find_object os class k)
        → list_any (int_eq k) (keys_in (cond b (o ∷ of_class class os) (of_class class os))) ≡ is_some (cond (b && int_eq k o.0.key) (Some o.1) (find_object os class k))
    by true rest = hit (int_eq k o.0.key) rest
    by false rest = rest

-- lists of keys in ascending order with the same keys are equal
pub same_keys : (xs ys : List ℤ) → IsStrictlySortedBy int_cmp xs → IsStrictlySortedBy int_cmp ys → ((k : ℤ) → list_any (int_eq k) xs ≡ list_any (int_eq k) ys) → xs ≡ ys
same_keys xs ys rise_x rise_y same =
    btree_set_from_contains int_cmp_total (record { keys = xs }) (record { keys = ys }) rise_x rise_y same exact_signed

-- ---- the row with one key

-- the object of a key, if it is there
abbrev pub with_key : ℤ → Option Row → List KeyedRow
with_key key None = []
with_key key (Some row) = record { key = key; row = row } ∷ []

pub one_row : (class : ℕ) (key : ℤ) (os : Objects) → ObjectsRise os → filter (λ (r : KeyedRow). int_eq r.key key) (rows_of class os) ≡ with_key key (find_object os class key)
one_row class key [] rise = refl
one_row class key (o ∷ os) rise =
    by (o.0.class == class) (int_eq o.0.key key) refl refl (one_row class key os (sorted_tail compare_names o.0 (names os) rise))
    ∙ ap (λ b. with_key key (cond b (Some o.1) (find_object os class key))) (sym (at_name class key o))
  where
    rest : List KeyedRow
    rest = filter (λ (r : KeyedRow). int_eq r.key key) (rows_of class os)

    gone : (o.0.class == class) ≡ true → int_eq o.0.key key ≡ true → find_object os class key ≡ None
    gone same is =
        let named : o.0 ≡ object_name class key = (λ i. record { class = nat_same o.0.class class same i; key = (Decides-int_eq o.0.key key).0 is i }) in
        absent_above (object_name class key) os (subst (λ n. AllByRecursion (λ y. compare_names n y ≡ Less) (names os)) named (sorted_head compare_names o.0 (names os) rise))

    turned : (t : Bool) → int_eq o.0.key key ≡ t → int_eq key o.0.key ≡ t
    turned t is = int_eq_equiv.symm key o.0.key ∙ is

    by : (b t : Bool) → (o.0.class == class) ≡ b → int_eq o.0.key key ≡ t → rest ≡ with_key key (find_object os class key)
        → filter (λ (r : KeyedRow). int_eq r.key key) (map keyed (cond b (o ∷ of_class class os) (of_class class os))) ≡ with_key key
        (cond (b && int_eq key o.0.key) (Some o.1) (find_object os class key))
    by true true same is later =
        let here : keyed o ≡ record { key = key; row = o.1 } = (λ i. record { key = (Decides-int_eq o.0.key key).0 is i; row = o.1 }) in
        let nothing : rest ≡ [] = later ∙ ap (with_key key) (gone same is) in
        ap (λ t. cond t (keyed o ∷ rest) rest) is ∙ (λ i. here i ∷ nothing i)
        ∙ sym (ap (λ t. with_key key (cond t (Some o.1) (find_object os class key))) (turned true is))
    by true false same is later =
        ap (λ t. cond t (keyed o ∷ rest) rest) is ∙ later
        ∙ sym (ap (λ t. with_key key (cond t (Some o.1) (find_object os class key))) (turned false is))
    by false t same is later = later
