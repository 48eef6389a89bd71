-- Objects in order are those of the classes in turn.
use Rattle.std.proofs.Common.{◌≡◌, refl, ap, sym, ◌∙◌, ℕ, ℤ, Bool, true, false, cond, List, [], ◌∷◌, ◌++◌, map, flat_map, Some, None, option_map, append_assoc, ◌≤◌, arith}
use Rattle.std.specs.Prelude.{◌==◌, ◌+◌, filter, ltb}
use Rattle.std.specs.declared.cmp.Ordering.{Ordering}
use Rattle.std.specs.declared.cmp.Ordering.TheVariants.{Less}
use Rattle.std.specs.Ordering.{nat_cmp, int_cmp, ordering_then}
use Rattle.std.specs.List.{AllByRecursion, All, slice_index_or}
use Rattle.std.specs.List.Sorted.{IsStrictlySortedBy}
use Rattle.std.proofs.lemmas.Bool.Decides.{Decides-eqb, nat_tests}
use Rattle.std.proofs.lemmas.Cmp.{eq_by_cmp_equiv}
use Rattle.std.proofs.lemmas.List.Elements.{All-head, All-tail}
use Rattle.std.proofs.lemmas.List.Concat.{flat_map-append}
use Rattle.std.proofs.lemmas.Option.{slice_get-get_or}
use Rattle.std.proofs.lemmas.Map.Keys.{IsDistinct-from_sorted}
use Rattle.std.proofs.lemmas.Map.Entries.{lookup_from_place}
use Rattle.std.specs.Map.{lookup}
use Rattle.std.specs.BTreeMap.{is_at}
use Rattle.hp_model.specs.Values.{Row, KeyedRow}
use Rattle.hp_model.specs.Rules.{Library}
use Rattle.hp_model.specs.State.{State, IsOrdered, ObjectName, compare_names, Objects, find_object}
use Rattle.hp_model.specs.Cells.{Cells, cells, row_value, object_cell}
use Rattle.hp_model.specs.Report.{Bytes, objects_text}
use Rattle.hp_model.proofs.Ordered.{names_total}
use Rattle.hp_model.proofs.BridgesKeys.{ObjectsRise}
use Rattle.hp_report.specs.Text.{object_line, class_text}

-- the objects of the classes before one
abbrev pub before_class : ℕ → Objects → Objects
before_class class objects = filter (λ (o : ObjectName × Row). ltb o.0.class class) objects

pub none_before_first : (objects : Objects) → before_class 0 objects ≡ []
none_before_first [] = refl
none_before_first (o ∷ os) =
    let none : ltb o.0.class 0 ≡ false = grind (arith, nat_tests) in
    ap (λ b. cond b (o ∷ before_class 0 os) (before_class 0 os)) none ∙ none_before_first os

abbrev of_class : ℕ → Objects → Objects
of_class class objects = filter (λ (o : ObjectName × Row). o.0.class == class) objects

abbrev Rises : ObjectName → Objects → Type 0
Rises name objects = AllByRecursion (λ n. compare_names name n ≡ Less) (map (λ (o : ObjectName × Row). o.0) objects)

no_less : (a b : ℕ) (r : Ordering) → ordering_then (nat_cmp a b) r ≡ Less → ltb b a ≡ false
no_less a b r e = grind (arith, nat_tests)

none_before : (class : ℕ) (name : ObjectName) (objects : Objects) → class ≤ name.class → Rises name objects → before_class class objects ≡ []
none_before class name [] up rises = refl
none_before class name (o ∷ os) up rises =
    let first : ltb o.0.class class ≡ false = later (no_less name.class o.0.class (int_cmp name.key o.0.key) rises.0) in
    ap (λ b. cond b (o ∷ before_class class os) (before_class class os)) first ∙ none_before class name os up rises.1
  where
    later : ltb o.0.class name.class ≡ false → ltb o.0.class class ≡ false
    later h = grind (arith, nat_tests)

-- those of the classes before the next one are those before this one, and then its own
pub one_class_more : (class : ℕ) (objects : Objects) → ObjectsRise objects → before_class (class + 1) objects ≡ before_class class objects ++ of_class class objects
unfolding IsStrictlySortedBy
one_class_more class [] rise = refl
one_class_more class (o ∷ os) rise = by (ltb o.0.class class) (o.0.class == class) (ltb o.0.class (class + 1)) refl refl refl (one_class_more class os rise.1)
  where
    by : (s t u : Bool) → ltb o.0.class class ≡ s → (o.0.class == class) ≡ t → ltb o.0.class (class + 1) ≡ u → before_class (class + 1) os ≡ before_class class os ++ of_class class os
        → cond u (o ∷ before_class (class + 1) os) (before_class (class + 1) os) ≡ cond s (o ∷ before_class class os) (before_class class os) ++ cond t (o ∷ of_class class os) (of_class class os)
    by true false true p q r h = ap (λ l. o ∷ l) h
    by false true true p q r h =
        let none : before_class class os ≡ [] = none_before class o.0 os (grind (arith, nat_tests)) rise.0 in
        ap (λ l. o ∷ l) (h ∙ ap (λ l. l ++ of_class class os) none) ∙ ap (λ l. l ++ o ∷ of_class class os) (sym none)
    by false false false p q r h = h
    by true true u p q r h = grind (arith, nat_tests)
    by true false false p q r h = grind (arith, nat_tests)
    by false true false p q r h = grind (arith, nat_tests)
    by false false true p q r h = grind (arith, nat_tests)

pub all_before : (class : ℕ) (objects : Objects) → All (λ (o : ObjectName × Row). ltb o.0.class class ≡ true) objects → before_class class objects ≡ objects
all_before class [] all = refl
all_before class (o ∷ os) all =
    ap (λ b. cond b (o ∷ before_class class os) (before_class class os)) (All-head (λ (p : ObjectName × Row). ltb p.0.class class ≡ true) o os all)
    ∙ ap (λ l. o ∷ l) (all_before class os (All-tail (λ (p : ObjectName × Row). ltb p.0.class class ≡ true) o os all))

-- ---- their lines

class_objects : (library : Library) (class : ℕ) (objects : Objects) → objects_text library (of_class class objects) ≡ class_text library class objects
class_objects library class [] = refl
class_objects library class (o ∷ os) = by (o.0.class == class) refl (class_objects library class os)
  where
    rows : Objects → List KeyedRow
    rows l = map (λ (o : ObjectName × Row). record { key = o.0.key; row = o.1 }) l

    by : (b : Bool) → (o.0.class == class) ≡ b → objects_text library (of_class class os) ≡ flat_map (object_line library class) (rows (of_class class os))
        → objects_text library (cond b (o ∷ of_class class os) (of_class class os)) ≡ flat_map (object_line library class) (rows (cond b (o ∷ of_class class os) (of_class class os)))
    by true is h =
        let same : o.0.class ≡ class = (Decides-eqb o.0.class class).0 is in
        ap (λ c. object_line library c (record { key = o.0.key; row = o.1 }) ++ objects_text library (of_class class os)) same
        ∙ ap (λ (l : Bytes). object_line library class (record { key = o.0.key; row = o.1 }) ++ l) h
    by false is h = h

-- the lines of the objects of the next class, after those of the classes before it
pub class_put : (library : Library) (class : ℕ) (objects : Objects) (start before now : Bytes) → ObjectsRise objects
    → before ≡ start ++ objects_text library (before_class class objects) → now ≡ before ++ class_text library class objects
    → now ≡ start ++ objects_text library (before_class (class + 1) objects)
class_put library class objects start before now rise so_far next =
    next ∙ ap (λ (l : Bytes). l ++ class_text library class objects) so_far
    ∙ append_assoc start (objects_text library (before_class class objects)) (class_text library class objects)
    ∙ ap (λ (l : Bytes). start ++ (objects_text library (before_class class objects) ++ l)) (sym (class_objects library class objects))
    ∙ ap (λ (l : Bytes). start ++ l)
    (sym (flat_map-append (λ (o : ObjectName × Row). object_line library o.0.class (record { key = o.0.key; row = o.1 })) (before_class class objects) (of_class class objects)))
    ∙ ap (λ os. start ++ objects_text library os) (sym (one_class_more class objects rise))

-- ---- where there are none from a class on

pub all_below : (library : Library) (base : Cells) (S : State) (bound : ℕ) → IsOrdered library S → cells library S ≡ base
    → ((class : ℕ) (key : ℤ) → bound ≤ class → base (object_cell class key) ≡ None) → before_class bound S.objects ≡ S.objects
all_below library base S bound ordered same none = all_before bound S.objects each
  where
    names : List ObjectName
    names = map (λ (o : ObjectName × Row). o.0) S.objects

    is_there : (o : ObjectName × Row) → lookup (is_at (compare_names o.0)) S.objects ≡ Some o.1 → (b : Bool) → ltb o.0.class bound ≡ b → b ≡ true
    is_there o found true is = refl
    is_there o found false is =
        let gone : option_map row_value (find_object S.objects o.0.class o.0.key) ≡ None =
        ap (λ (q : Cells). q (object_cell o.0.class o.0.key)) same ∙ none o.0.class o.0.key (grind (arith, nat_tests)) in
        let there : option_map row_value (find_object S.objects o.0.class o.0.key) ≡ Some (row_value o.1) = ap (option_map row_value) found in
        cc

    each : All (λ (o : ObjectName × Row). ltb o.0.class bound ≡ true) S.objects
    each i d below =
        let o = slice_index_or S.objects i d in
        let distinct = IsDistinct-from_sorted compare_names names ordered.objects_rise in
        is_there o (lookup_from_place (eq_by_cmp_equiv names_total) S.objects i o.0 o.1 distinct (slice_get-get_or S.objects i d below)) (ltb o.0.class bound) refl
