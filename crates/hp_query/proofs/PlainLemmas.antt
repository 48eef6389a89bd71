-- The entries of a plain map, as objects of the model.
use Rattle.std.proofs.Common.{◌≡◌, ℕ, ℤ, pos, negsuc, nat_lt, arith, Bool, true, false, not, ◌==◌, ◌&&◌, cond, List, [], ◌∷◌, ◌++◌, Option, Some, None, map, filter, refl, sym, ap, ◌∙◌, IsTrue}
use Rattle.std.specs.declared.cmp.Ordering.{Ordering}
use Rattle.std.specs.declared.cmp.Ordering.TheVariants.{Less, Equal, Greater}
use Rattle.std.specs.declared.ops.Bound.TheVariants.{Included}
use Rattle.std.specs.Ordering.{is_eq, is_le, is_lt, nat_cmp, int_cmp, ordering_then, match_ordering}
use Rattle.std.specs.List.{list_all, last_or, AllByRecursion}
use Rattle.std.specs.List.Sorted.{IsStrictlySortedBy}
use Rattle.std.specs.Map.{lookup, remove_entry, keys_of}
use Rattle.std.specs.BTreeMap.{is_at, insert_entry}
use Rattle.std.specs.BTreeMap.Range.{range_contains}
use Rattle.hp_model.specs.Values.{Row, KeyedRow, fits_64}
use Rattle.hp_model.specs.State as M
use Rattle.hp_model.specs.State.{Objects, compare_names, object_name, find_object, write_object, remove_object, class_keys}
use Rattle.hp_query.specs.declared.plain.ObjectName.{ObjectName}
use Rattle.hp_query.specs.contracts.plain.ObjectNameOrd.TheImpl as order
use Rattle.hp_query.specs.Looks.{ObjectsRise}
use Rattle.std.proofs.lemmas.Bool.Decides.{nat_tests}
use Rattle.std.proofs.lemmas.List.{map-append}
use Rattle.hp_query.proofs.RowLemmas.{nat_at}
use Rattle.hp_query.specs.Plain.{objects_in, KeysFit}

abbrev pub name_cmp : ObjectName → ObjectName → Ordering
name_cmp = order.ghosts.cmp

abbrev Entries : Type 0
Entries = List (ObjectName × Row)

found_at : (entries : Entries) (class : ℕ) (key : ℤ) → lookup (is_at (name_cmp (record { class = class; key = key }))) entries ≡ find_object (objects_in entries) class key
found_at [] class key = refl
found_at (e ∷ es) class key = ap (cond (is_at (compare_names (object_name class key)) (object_name e.0.class e.0.key)) (Some e.1)) (found_at es class key)

abbrev named : ObjectName × Row → M.ObjectName × Row
named e = (object_name e.0.class e.0.key, e.1)

written_at : (entries : Entries) (class : ℕ) (key : ℤ) (row : Row)
    → objects_in (insert_entry name_cmp entries (record { class = class; key = key }) row) ≡ write_object (objects_in entries) class key row
written_at [] class key row = refl
written_at (e ∷ es) class key row = by (compare_names (object_name class key) (object_name e.0.class e.0.key)) (written_at es class key row)
  where
    n : ObjectName
    n = record { class = class; key = key }

    by : (r : Ordering) → objects_in (insert_entry name_cmp es n row) ≡ write_object (objects_in es) class key row
        → objects_in (match_ordering r ((n, row) ∷ e ∷ es) ((e.0, row) ∷ es) (e ∷ insert_entry name_cmp es n row))
        ≡ match_ordering r ((object_name class key, row) ∷ named e ∷ objects_in es) ((object_name e.0.class e.0.key, row) ∷ objects_in es) (named e ∷ write_object (objects_in es) class key row)
    by Less rest = refl
    by Equal rest = refl
    by Greater rest = ap (λ os. named e ∷ os) rest

removed_at : (entries : Entries) (class : ℕ) (key : ℤ) → objects_in (remove_entry (is_at (name_cmp (record { class = class; key = key }))) entries) ≡ remove_object (objects_in entries) class key
removed_at [] class key = refl
removed_at (e ∷ es) class key = by (is_at (compare_names (object_name class key)) (object_name e.0.class e.0.key)) (removed_at es class key)
  where
    n : ObjectName
    n = record { class = class; key = key }

    by : (b : Bool) → objects_in (remove_entry (is_at (name_cmp n)) es) ≡ remove_object (objects_in es) class key
        → objects_in (cond b es (e ∷ remove_entry (is_at (name_cmp n)) es)) ≡ cond b (objects_in es) (named e ∷ remove_object (objects_in es) class key)
    by true rest = refl
    by false rest = ap (λ os. named e ∷ os) rest

-- a key may be passed in another form
pub found_in : (entries : Entries) (class : ℕ) (key passed : ℤ) → passed ≡ key → lookup (is_at (name_cmp (record { class = class; key = passed }))) entries ≡ find_object (objects_in entries) class key
found_in entries class key passed same = ap (λ k. lookup (is_at (name_cmp (record { class = class; key = k }))) entries) same ∙ found_at entries class key

pub written_in : (entries : Entries) (class : ℕ) (key passed : ℤ) (row : Row) → passed ≡ key
    → objects_in (insert_entry name_cmp entries (record { class = class; key = passed }) row) ≡ write_object (objects_in entries) class key row
written_in entries class key passed row same = ap (λ k. objects_in (insert_entry name_cmp entries (record { class = class; key = k }) row)) same ∙ written_at entries class key row

pub removed_in : (entries : Entries) (class : ℕ) (key passed : ℤ) → passed ≡ key
    → objects_in (remove_entry (is_at (name_cmp (record { class = class; key = passed }))) entries) ≡ remove_object (objects_in entries) class key
removed_in entries class key passed same = ap (λ k. objects_in (remove_entry (is_at (name_cmp (record { class = class; key = k }))) entries)) same ∙ removed_at entries class key

-- ---- the keys stay within 64 bits

both_true : (a b : Bool) → IsTrue a → IsTrue b → IsTrue (a && b)
both_true true b p q = q
both_true false b p q = p

first_true : (a b : Bool) → IsTrue (a && b) → IsTrue a
first_true true b p = refl
first_true false b p = p

second_true : (a b : Bool) → IsTrue (a && b) → IsTrue b
second_true true b p = p
second_true false b p = cc

pub KeysFit-insert : (entries : Entries) (name : ObjectName) (row : Row) → KeysFit entries → IsTrue (fits_64 name.key) → KeysFit (insert_entry name_cmp entries name row)
KeysFit-insert [] name row fit here = both_true (fits_64 name.key) true here refl
KeysFit-insert (e ∷ es) name row fit here =
    by (name_cmp name e.0) (KeysFit-insert es name row (second_true (fits_64 e.0.key) (list_all (λ (p : ObjectName × Row). fits_64 p.0.key) es) fit) here)
  where
    rest : Bool
    rest = list_all (λ (p : ObjectName × Row). fits_64 p.0.key) es

    by : (r : Ordering) → KeysFit (insert_entry name_cmp es name row) → KeysFit (match_ordering r ((name, row) ∷ e ∷ es) ((e.0, row) ∷ es) (e ∷ insert_entry name_cmp es name row))
    by Less later = both_true (fits_64 name.key) (fits_64 e.0.key && rest) here fit
    by Equal later = fit
    by Greater later = both_true (fits_64 e.0.key) _ (first_true (fits_64 e.0.key) rest fit) later

pub KeysFit-remove : (entries : Entries) (test : ObjectName → Bool) → KeysFit entries → KeysFit (remove_entry test entries)
KeysFit-remove [] test fit = fit
KeysFit-remove (e ∷ es) test fit = by (test e.0) (KeysFit-remove es test (second_true (fits_64 e.0.key) (list_all (λ (p : ObjectName × Row). fits_64 p.0.key) es) fit))
  where
    rest : Bool
    rest = list_all (λ (p : ObjectName × Row). fits_64 p.0.key) es

    by : (b : Bool) → KeysFit (remove_entry test es) → KeysFit (cond b es (e ∷ remove_entry test es))
    by true later = second_true (fits_64 e.0.key) rest fit
    by false later = both_true (fits_64 e.0.key) _ (first_true (fits_64 e.0.key) rest fit) later

-- ---- a class's names are those between its least and its largest key

abbrev pub least : ℤ
least = negsuc 9223372036854775807

abbrev pub largest : ℤ
largest = pos 9223372036854775807

within_le : (b c : Bool) → c ≡ false → is_le (cond b Less (cond c Greater Equal)) ≡ true
within_le true c h = refl
within_le false true h = cc
within_le false false h = refl

not_lt : (b c : Bool) → b ≡ false → is_lt (cond b Less (cond c Greater Equal)) ≡ false
not_lt true c h = cc
not_lt false true h = refl
not_lt false false h = refl

least_below : (key : ℤ) → IsTrue (fits_64 key) → is_le (int_cmp least key) ≡ true
least_below (pos n) fits = refl
least_below (negsuc n) fits = within_le (nat_lt n 9223372036854775807) (nat_lt 9223372036854775807 n) (grind (arith, nat_tests))

largest_above : (key : ℤ) → IsTrue (fits_64 key) → is_lt (int_cmp largest key) ≡ false
largest_above (pos n) fits = not_lt (nat_lt 9223372036854775807 n) (nat_lt n 9223372036854775807) (grind (arith, nat_tests))
largest_above (negsuc n) fits = refl

between : (r low high : Ordering) → is_le low ≡ true → is_lt high ≡ false → (is_le (ordering_then r low) && not (is_lt (ordering_then r high))) ≡ is_eq r
between Less low high p q = refl
between Equal low high p q = (λ i. p i && not (q i))
between Greater low high p q = refl

abbrev pub in_class : ℕ → ObjectName → Bool
in_class class name = range_contains name_cmp (Included (record { class = class; key = least })) (Included (record { class = class; key = largest })) name

in_class_is : (class : ℕ) (name : ObjectName) → IsTrue (fits_64 name.key) → in_class class name ≡ (name.class == class)
in_class_is class name fits =
    between (nat_cmp class name.class) (int_cmp least name.key) (int_cmp largest name.key) (least_below name.key fits) (largest_above name.key fits) ∙ nat_at class name.class

pub keys_between : (entries : Entries) (class : ℕ) → KeysFit entries
    → map (λ (e : ObjectName × Row). e.0.key) (filter (λ (e : ObjectName × Row). in_class class e.0) entries) ≡ class_keys class (objects_in entries)
keys_between [] class fit = refl
keys_between (e ∷ es) class fit =
    ap (λ b. map key_of (cond b (e ∷ inside) inside)) (in_class_is class e.0 (first_true (fits_64 e.0.key) _ fit))
    ∙ by (e.0.class == class) (keys_between es class (second_true (fits_64 e.0.key) (list_all (λ (p : ObjectName × Row). fits_64 p.0.key) es) fit))
  where
    key_of : ObjectName × Row → ℤ
    key_of p = p.0.key

    inside : Entries
    inside = filter (λ (p : ObjectName × Row). in_class class p.0) es

    by : (b : Bool) → map key_of inside ≡ class_keys class (objects_in es)
        → map key_of (cond b (e ∷ inside) inside) ≡ map (λ (r : KeyedRow). r.key) (map (λ (o : M.ObjectName × Row). record { key = o.0.key; row = o.1 })
        (cond b (named e ∷ filter (λ (o : M.ObjectName × Row). o.0.class == class) (objects_in es)) (filter (λ (o : M.ObjectName × Row). o.0.class == class) (objects_in es))))
    by true rest = ap (λ ks. e.0.key ∷ ks) rest
    by false rest = rest

-- ---- the last key

last_pushed : (keys : List ℤ) (o : Option ℤ) (k : ℤ) → last_or o (keys ++ k ∷ []) ≡ Some k
last_pushed [] o k = refl
last_pushed (j ∷ keys) o k = last_pushed keys (Some j) k

-- the key of the last of a class's entries is the greatest
pub last_key : (entries others : Entries) (last : ObjectName × Row) (keys : List ℤ) → entries ≡ others ++ last ∷ [] → map (λ (e : ObjectName × Row). e.0.key) entries ≡ keys
    → Some last.0.key ≡ last_or None keys
last_key entries others last keys is same =
    let key_of : ObjectName × Row → ℤ = λ e. e.0.key in
    sym (ap (last_or None) (sym same ∙ ap (map key_of) is ∙ map-append key_of others (last ∷ [])) ∙ last_pushed (map key_of others) None last.0.key)

-- ---- the objects of a plain map are in order

names_above : (name : ObjectName) (entries : Entries) → AllByRecursion (λ q. name_cmp name q ≡ Less) (keys_of entries)
    → AllByRecursion (λ q. compare_names (object_name name.class name.key) q ≡ Less) (map (λ (o : M.ObjectName × Row). o.0) (objects_in entries))
names_above name [] above = tt
names_above name (e ∷ es) above = (above.0, names_above name es above.1)

pub objects_rise : (entries : Entries) → IsStrictlySortedBy name_cmp (keys_of entries) → ObjectsRise (objects_in entries)
unfolding IsStrictlySortedBy
objects_rise [] rise = tt
objects_rise (e ∷ es) rise = (names_above e.0 es rise.0, objects_rise es rise.1)
