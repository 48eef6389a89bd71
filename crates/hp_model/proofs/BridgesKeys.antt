-- The keys of a class and its rows by their keys, among objects in order.
use Rattle.std.proofs.Common.{◌≡◌, refl, ap, sym, ◌∙◌, subst, ℕ, ℤ, Bool, true, false, ◌&&◌, ◌||◌, cond, List, [], ◌∷◌, map, Option, Some, is_some, int_eq}
use Rattle.std.specs.Prelude.{◌==◌, filter}
use Rattle.std.specs.declared.cmp.Ordering.TheVariants.{Less}
use Rattle.std.specs.Ordering.{nat_cmp, int_cmp, ordering_then}
use Rattle.std.specs.Map.{lookup}
use Rattle.std.specs.BTreeMap.{is_at}
use Rattle.std.specs.List.{AllByRecursion, All, list_any, slice_index_or}
use Rattle.std.specs.List.Sorted.{IsStrictlySortedBy}
use Rattle.std.proofs.lemmas.Bool.Decides.{Decides-eqb}
use Rattle.std.proofs.lemmas.Cmp.{nat_eq_equiv, nat_cmp_total, int_cmp_total, tied_itself, eq_by_cmp_equiv}
use Rattle.std.proofs.lemmas.Option.{slice_get-get_or}
use Rattle.std.proofs.lemmas.List.Elements.{All-map, All-filter, filter_passes}
use Rattle.std.proofs.lemmas.Map.Keys.{IsDistinct-from_sorted}
use Rattle.std.proofs.lemmas.Map.Entries.{lookup_from_place}
use Rattle.std.proofs.lemmas.Map.Lookups.{btree_set_from_contains, exact_signed}
use Rattle.hp_model.specs.Values.{Row, KeyedRow}
use Rattle.hp_model.specs.State.{ObjectName, compare_names, Objects, find_object, rows_of}
pub use Rattle.hp_model.specs.State.{class_keys}
use Rattle.hp_model.specs.Cells.{Cells, AreKeys}
use Rattle.hp_model.proofs.Ordered.{names_total}
use Rattle.hp_model.proofs.BridgesCells.{name_at}

-- the objects stand in order, each once
abbrev pub ObjectsRise : Objects → Type 0
ObjectsRise objects = IsStrictlySortedBy compare_names (map (λ (o : ObjectName × Row). o.0) objects)

-- a row with its object's key
abbrev pub keyed : ℤ → Row → KeyedRow
keyed key row = record { key = key; row = row }

-- ---- the keys of the class

abbrev names : Objects → List ObjectName
names objects = map (λ (o : ObjectName × Row). o.0) objects

abbrev of_class : ℕ → Objects → Objects
of_class class objects = filter (λ (o : ObjectName × Row). o.0.class == class) objects

abbrev keys_in : Objects → List ℤ
keys_in objects = map (λ (r : KeyedRow). r.key) (map (λ (o : ObjectName × Row). keyed o.0.key o.1) objects)

any_kept : (b c : Bool) (key : ℤ) (o : ObjectName × Row) (rest : Objects) (found : Option Row) → c ≡ b → list_any (int_eq key) (keys_in rest) ≡ is_some found
    → list_any (int_eq key) (keys_in (cond b (o ∷ rest) rest)) ≡ is_some (cond (c && int_eq key o.0.key) (Some o.1) found)
any_kept true c key o rest found is h = by (int_eq key o.0.key) ∙ ap (λ t. is_some (cond (t && int_eq key o.0.key) (Some o.1) found)) (sym is)
  where
    by : (t : Bool) → (t || list_any (int_eq key) (keys_in rest)) ≡ is_some (cond t (Some o.1) found)
    by true = refl
    by false = h
any_kept false c key o rest found is h = h ∙ ap (λ t. is_some (cond (t && int_eq key o.0.key) (Some o.1) found)) (sym is)

-- at each key of the class an object is found
pub has_keys : (class : ℕ) (key : ℤ) (objects : Objects) → list_any (int_eq key) (class_keys class objects) ≡ is_some (find_object objects class key)
has_keys class key [] = refl
has_keys class key (o ∷ os) =
    any_kept (o.0.class == class) (class == o.0.class) key o (of_class class os) (find_object os class key) (nat_eq_equiv.symm class o.0.class) (has_keys class key os)
    ∙ ap (λ b. is_some (cond b (Some o.1) (find_object os class key))) (sym (name_at class key o.0))

less_key : (a b : ObjectName) → a.class ≡ b.class → compare_names a b ≡ Less → int_cmp a.key b.key ≡ Less
less_key a b same less =
    sym (ap (λ r. ordering_then r (int_cmp a.key b.key)) (ap (nat_cmp a.class) (sym same) ∙ tied_itself nat_cmp_total a.class)) ∙ less

abbrev Above : ℤ → List ℤ → Type 0
Above key keys = AllByRecursion (λ k. int_cmp key k ≡ Less) keys

above_keys : (class : ℕ) (name : ObjectName) (objects : Objects) → name.class ≡ class → AllByRecursion (λ n. compare_names name n ≡ Less) (names objects) → Above name.key (class_keys class objects)
above_keys class name [] same above = tt
above_keys class name (o ∷ os) same above = by (o.0.class == class) refl (above_keys class name os same above.1)
  where
    by : (b : Bool) → (o.0.class == class) ≡ b → Above name.key (class_keys class os) → Above name.key (keys_in (cond b (o ∷ of_class class os) (of_class class os)))
    by true is rest = (less_key name o.0 (same ∙ sym ((Decides-eqb o.0.class class).0 is)) above.0, rest)
    by false is rest = rest

-- the keys rise
pub rising_keys : (class : ℕ) (objects : Objects) → ObjectsRise objects → IsStrictlySortedBy int_cmp (class_keys class objects)
unfolding IsStrictlySortedBy
rising_keys class [] rise = tt
rising_keys class (o ∷ os) rise = by (o.0.class == class) refl (rising_keys class os rise.1)
  where
    by : (b : Bool) → (o.0.class == class) ≡ b → IsStrictlySortedBy int_cmp (class_keys class os) → IsStrictlySortedBy int_cmp (keys_in (cond b (o ∷ of_class class os) (of_class class os)))
    by true is rest = (above_keys class o.0 os ((Decides-eqb o.0.class class).0 is) rise.0, rest)
    by false is rest = rest

-- ascending lists with the same keys are equal
pub same_keys : (xs ys : List ℤ) → IsStrictlySortedBy int_cmp xs → IsStrictlySortedBy int_cmp ys → ((key : ℤ) → list_any (int_eq key) xs ≡ list_any (int_eq key) ys) → xs ≡ ys
same_keys xs ys rx ry same = btree_set_from_contains int_cmp_total (record { keys = xs }) (record { keys = ys }) rx ry same exact_signed

-- an ascending list of the keys at which objects are found
pub keys_are_class_keys : (class : ℕ) (objects : Objects) (keys : List ℤ) → ObjectsRise objects → IsStrictlySortedBy int_cmp keys
    → ((key : ℤ) → list_any (int_eq key) keys ≡ is_some (find_object objects class key)) → keys ≡ class_keys class objects
keys_are_class_keys class objects keys rise rk has = same_keys keys (class_keys class objects) rk (rising_keys class objects rise) (λ key. has key ∙ sym (has_keys class key objects))

-- ---- the keys of a state's cells

-- keys of the same class in the same cells
pub one_list : {base : Cells} {class : ℕ} {xs ys : List ℤ} → AreKeys base class xs → AreKeys base class ys → xs ≡ ys
one_list {base} {class} {xs} {ys} p q = same_keys xs ys p.rise q.rise (λ key. p.has key ∙ sym (q.has key))

-- ---- the rows of the class, by their keys

-- each row of the class is what is found at its key
pub rows_found : (class : ℕ) (objects : Objects) → ObjectsRise objects → All (λ (r : KeyedRow). find_object objects class r.key ≡ Some r.row) (rows_of class objects)
rows_found class objects rise =
    All-map (λ (r : KeyedRow). find_object objects class r.key ≡ Some r.row) (λ (o : ObjectName × Row). keyed o.0.key o.1) (of_class class objects) (λ i d below.
    subst (λ c. find_object objects c (slice_index_or (of_class class objects) i d).0.key ≡ Some (slice_index_or (of_class class objects) i d).1)
    ((Decides-eqb (slice_index_or (of_class class objects) i d).0.class class).0 (filter_passes (λ (o : ObjectName × Row). o.0.class == class) objects i d below))
    (All-filter (λ (o : ObjectName × Row). o.0.class == class) (λ (o : ObjectName × Row). lookup (is_at (compare_names o.0)) objects ≡ Some o.1) objects each i d below))
  where
    each : All (λ (o : ObjectName × Row). lookup (is_at (compare_names o.0)) objects ≡ Some o.1) objects
    each i d below =
        let o = slice_index_or objects i d in
        lookup_from_place (eq_by_cmp_equiv names_total) objects i o.0 o.1 (IsDistinct-from_sorted compare_names (names objects) rise) (slice_get-get_or objects i d below)
