-- Lemmas on rows made of fields and values.
use Rattle.std.proofs.Common.{◌≡◌, refl, ap, ap₂, subst, ◌++◌, ℤ, ℕ, zero, suc, ◌+◌, ◌<◌, ◌≤◌, min, arith, List, [], ◌∷◌, length, take, drop, map, get_or, slice_get, Option, Some}
use Rattle.std.proofs.Common.{None, string_bytes, bytes_eq, Bool, true, false, cond, not, ◌&&◌, length-drop, drop-cons, append_assoc, append-nil, sym, ◌∙◌}
use Rattle.std.specs.Map.{lookup}
use Rattle.std.proofs.lemmas.List.{drop_more, drop_all, take-map, drop-map}
use Rattle.std.proofs.lemmas.Option.{slice_get_read, slice_get_past}
use Rattle.hp_model.specs.Values as V
use Rattle.hp_value.specs.declared.value.Value.{Value}
use Rattle.hp_value.specs.declared.row.Field.{Field}
use Rattle.hp_value.specs.Rows.{value, row_of, renewed, names_of, values_of, all_values, first_names, AreNamed, AreAlike}
use Rattle.hp_value.specs.Mapped.{keyed_row, keys_of}
use Rattle.hp_value.specs.declared.row.KeyedRow.{KeyedRow}
use Rattle.hp_value.specs.Same.{pair_same, row_same, value_same, values_same, keyed_same}
use Rattle.hp_value.proofs.Lists.{pointwise_map}
use lib.Pointwise.{pointwise, pointwise_long, bytes_decides}
use mathlib.Core.Bool.{true≢false}
use Rattle.std.specs.Ordering.{int_eq}

abbrev pub field_name : Field → V.Name
field_name f = string_bytes f.name

pub length_row : (fs : List Field) (vs : List Value) → length (row_of fs vs) ≡ min (length fs) (length vs)
length_row [] vs = omega arith
length_row (f ∷ fs) [] = omega arith
length_row (f ∷ fs) (v ∷ vs) = omega (arith, length_row fs vs)

abbrev pub named : Option Field → Option Value → Option (V.Name × V.Value)
named None v = None
named (Some f) None = None
named (Some f) (Some v) = Some (string_bytes f.name, value v)

pub get_row : (fs : List Field) (vs : List Value) (i : ℕ) → slice_get (row_of fs vs) i ≡ named (slice_get fs i) (slice_get vs i)
get_row [] vs i = refl
get_row (f ∷ fs) [] zero = refl
get_row (f ∷ fs) [] (suc i) = none (slice_get fs i)
  where
    none : (o : Option Field) → None ≡ named o None
    none None = refl
    none (Some f) = refl
get_row (f ∷ fs) (v ∷ vs) zero = refl
get_row (f ∷ fs) (v ∷ vs) (suc i) = get_row fs vs i

pub get_found : (fs : List Field) (vs : List Value) (i : ℕ) (f : Field) (v : Value) → i < length fs → f ≡ get_or fs i f → i < length vs → v ≡ get_or vs i v
    → Some (string_bytes f.name, value v) ≡ slice_get (row_of fs vs) i
get_found fs vs i f v low is low' is' =
    sym (get_row fs vs i ∙ ap (λ o. named o (slice_get vs i)) (slice_get_read fs (length fs) i f refl low is) ∙ ap (named (Some f)) (slice_get_read vs (length vs) i v refl low' is'))

pub get_past : (fs : List Field) (vs : List Value) (i : ℕ) → min (length fs) (length vs) ≤ i → None ≡ slice_get (row_of fs vs) i
get_past fs vs i past = sym (slice_get_past (row_of fs vs) i (omega (arith, length_row fs vs)))

pub renewed_row : (fs : List Field) (vs ws : List Value) → row_of fs (take (length (row_of fs vs)) ws) ≡ renewed (row_of fs vs) (map value ws)
renewed_row [] vs ws = refl
renewed_row (f ∷ fs) [] ws = none ws
  where
    none : (ws : List Value) → row_of (f ∷ fs) (take 0 ws) ≡ []
    none [] = refl
    none (w ∷ ws) = refl
renewed_row (f ∷ fs) (v ∷ vs) [] = refl
renewed_row (f ∷ fs) (v ∷ vs) (w ∷ ws) = ap (λ r. (string_bytes f.name, value w) ∷ r) (renewed_row fs vs ws)

drop_nothing : (i : ℕ) → drop {A = Value} i [] ≡ []
drop_nothing zero = refl
drop_nothing (suc i) = refl

pub row_of_nothing : (fs : List Field) → row_of fs [] ≡ []
row_of_nothing [] = refl
row_of_nothing (f ∷ fs) = refl

-- if the i-th field has another name, the lookup goes on with the fields after it
pub lookup_next : (x : List ℕ) (fs : List Field) (vs : List Value) (i : ℕ) (f : Field) → i < length fs → f ≡ get_or fs i f → bytes_eq x (string_bytes f.name) ≡ false
    → lookup (bytes_eq x) (row_of (drop (suc i) fs) (drop (suc i) vs)) ≡ lookup (bytes_eq x) (row_of (drop i fs) (drop i vs))
lookup_next x [] vs i f low is other = absurd (omega arith)
lookup_next x (g ∷ fs) [] i f low is other =
    ap (λ (r : V.Row). lookup (bytes_eq x) r) (ap (row_of (drop (suc i) (g ∷ fs))) (drop_nothing (suc i)) ∙ row_of_nothing (drop (suc i) (g ∷ fs))
    ∙ sym (ap (row_of (drop i (g ∷ fs))) (drop_nothing i) ∙ row_of_nothing (drop i (g ∷ fs))))
lookup_next x (g ∷ fs) (v ∷ vs) zero f low is other =
    ap (λ (b : Bool). cond b (Some (value v)) (lookup (bytes_eq x) (row_of fs vs))) (sym (ap (λ (h : Field). bytes_eq x (string_bytes h.name)) (sym is) ∙ other))
lookup_next x (g ∷ fs) (v ∷ vs) (suc i) f low is other = lookup_next x fs vs i f (omega arith) is other

pub lengths_differ : (fs gs : List Field) (vs ws : List Value) → (min (length fs) (length vs) ≡ min (length gs) (length ws) → ⊥)
    → false ≡ row_same (row_of fs vs) (row_of gs ws)
lengths_differ fs gs vs ws differ = by_test (row_same (row_of fs vs) (row_of gs ws)) refl
  where
    by_test : (b : Bool) → row_same (row_of fs vs) (row_of gs ws) ≡ b → false ≡ b
    by_test false e = refl
    by_test true e =
        absurd (differ (sym (length_row fs vs) ∙ pointwise_long pair_same (row_of fs vs) (row_of gs ws) e ∙ length_row gs ws))

row_from : (fs : List Field) (vs : List Value) (i : ℕ) (f : Field) (v : Value) → i < length fs → i < length vs → f ≡ get_or fs i f → v ≡ get_or vs i v
    → row_of (drop i fs) (drop i vs) ≡ (string_bytes f.name, value v) ∷ row_of (drop (suc i) fs) (drop (suc i) vs)
row_from fs vs i f v low low' is is' =
    ap (λ (xs : List Field). row_of xs (drop i vs)) (drop-cons fs i f low ∙ ap (λ (g : Field). g ∷ drop (suc i) fs) (sym is))
    ∙ ap (row_of (f ∷ drop (suc i) fs)) (drop-cons vs i v low' ∙ ap (λ (w : Value). w ∷ drop (suc i) vs) (sym is'))

-- the fields and values of both rows at index i
pub same_from : (fs gs : List Field) (vs ws : List Value) (i : ℕ) (f g : Field) (v w : Value)
    → i < length fs → i < length vs → i < length gs → i < length ws → f ≡ get_or fs i f → v ≡ get_or vs i v → g ≡ get_or gs i g → w ≡ get_or ws i w
    → row_same (row_of (drop i fs) (drop i vs)) (row_of (drop i gs) (drop i ws))
    ≡ (pair_same (string_bytes f.name, value v) (string_bytes g.name, value w) && row_same (row_of (drop (suc i) fs) (drop (suc i) vs)) (row_of (drop (suc i) gs) (drop (suc i) ws)))
same_from fs gs vs ws i f g v w a b c d is-f is-v is-g is-w =
    ap (λ (r : V.Row). row_same r (row_of (drop i gs) (drop i ws))) (row_from fs vs i f v a b is-f is-v)
    ∙ ap (row_same ((string_bytes f.name, value v) ∷ row_of (drop (suc i) fs) (drop (suc i) vs))) (row_from gs ws i g w c d is-g is-w)

pub row_at_end : (fs : List Field) (vs : List Value) (i : ℕ) → min (length fs) (length vs) ≤ i → row_of (drop i fs) (drop i vs) ≡ []
row_at_end fs vs i past = empty _ (length_row (drop i fs) (drop i vs) ∙ omega (arith, length-drop i fs, length-drop i vs))
  where
    empty : (r : V.Row) → length r ≡ 0 → r ≡ []
    empty [] e = refl
    empty (p ∷ r) e = absurd (omega (arith, e))

-- rows of as many values under the fields of one list have the same names
pub names_by_fields : (fs gs : List Field) (vs ws : List Value) → map field_name fs ≡ map field_name gs → length vs ≡ length ws
    → names_of (row_of fs vs) ≡ names_of (row_of gs ws)
names_by_fields [] [] vs ws e l = refl
names_by_fields [] (g ∷ gs) vs ws e l = absurd (omega (arith, ap (λ (ns : List V.Name). length ns) e))
names_by_fields (f ∷ fs) [] vs ws e l = absurd (omega (arith, ap (λ (ns : List V.Name). length ns) e))
names_by_fields (f ∷ fs) (g ∷ gs) [] [] e l = refl
names_by_fields (f ∷ fs) (g ∷ gs) [] (w ∷ ws) e l = absurd (omega (arith, l))
names_by_fields (f ∷ fs) (g ∷ gs) (v ∷ vs) [] e l = absurd (omega (arith, l))
names_by_fields (f ∷ fs) (g ∷ gs) (v ∷ vs) (w ∷ ws) e l =
    let head : string_bytes f.name ≡ string_bytes g.name = cc in
    let tail : map field_name fs ≡ map field_name gs = cc in
    ap (λ (n : V.Name). n ∷ names_of (row_of fs vs)) head ∙ ap (λ (ns : List V.Name). string_bytes g.name ∷ ns) (names_by_fields fs gs vs ws tail (omega (arith, l)))

pub values_row : (fs : List Field) (vs : List Value) → map value (take (min (length fs) (length vs)) vs) ≡ values_of (row_of fs vs)
values_row [] vs = ap (λ n. map value (take n vs)) least
  where
    least : min 0 (length vs) ≡ 0
    least = omega arith
values_row (f ∷ fs) [] = nothing (min (suc (length fs)) 0)
  where
    nothing : (n : ℕ) → map value (take n []) ≡ []
    nothing zero = refl
    nothing (suc n) = refl
values_row (f ∷ fs) (v ∷ vs) =
    let least : min (suc (length fs)) (suc (length vs)) ≡ suc (min (length fs) (length vs)) = omega arith in
    ap (λ n. map value (take n (v ∷ vs))) least ∙ ap (λ (ws : List V.Value). value v ∷ ws) (values_row fs vs)

same_values : (r s : V.Row) → names_of r ≡ names_of s → pointwise value_same (values_of r) (values_of s) ≡ row_same r s
same_values [] [] e = refl
same_values [] (q ∷ s) e = refl
same_values (p ∷ r) [] e = refl
same_values (p ∷ r) (q ∷ s) e =
    let head : p.0 ≡ q.0 = cc in
    let tail : names_of r ≡ names_of s = cc in
    ap₂ (λ a b. (a && value_same p.1 q.1) && b) (sym ((bytes_decides p.0 q.0).1 head)) (same_values r s tail)

turned : (a b v w : Bool) → ((a && b) && (v && w)) ≡ ((a && v) && (b && w))
turned true true v w = both v w
  where
    both : (v w : Bool) → (v && w) ≡ (v && w)
    both v w = refl
turned true false true w = refl
turned true false false w = refl
turned false b v w = refl

with_names : (ns : List V.Name) (os ps : List V.KeyedRow) → AreNamed ns os → AreNamed ns ps
    → (pointwise int_eq (keys_of os) (keys_of ps) && pointwise values_same os ps) ≡ pointwise keyed_same os ps
with_names ns [] [] h k = refl
with_names ns [] (p ∷ ps) h k = refl
with_names ns (o ∷ os) [] h k = refl
with_names ns (o ∷ os) (p ∷ ps) h k =
    turned (int_eq o.key p.key) (pointwise int_eq (keys_of os) (keys_of ps)) (values_same o p) (pointwise values_same os ps)
    ∙ ap₂ (λ a b. (int_eq o.key p.key && a) && b) (same_values o.row p.row (h.0 ∙ sym k.0)) (with_names ns os ps h.1 k.1)

-- objects whose rows have the same names are equal if their keys and values are
pub by_values : (os ps : List V.KeyedRow) → AreAlike os → AreAlike ps → first_names os ≡ first_names ps
    → (pointwise int_eq (keys_of os) (keys_of ps) && pointwise values_same os ps) ≡ pointwise keyed_same os ps
by_values os ps h k e = with_names (first_names os) os ps h (subst (λ ns. AreNamed ns ps) (sym e) k)

alike_more : (ns : List V.Name) (os : List V.KeyedRow) (o : V.KeyedRow) → AreNamed ns os → names_of o.row ≡ ns → AreNamed ns (os ++ o ∷ [])
alike_more ns [] o h e = (e, tt)
alike_more ns (p ∷ os) o h e = (h.0, alike_more ns os o h.1 e)

-- a row with the names of the first one's is like the others
pub alike_after : (objects : List KeyedRow) (first added : KeyedRow) → Some first ≡ slice_get objects 0 → names_of added.row ≡ names_of first.row
    → AreAlike (map keyed_row objects) → AreAlike (map keyed_row objects ++ keyed_row added ∷ [])
alike_after [] first added is e h = (refl, tt)
alike_after (row ∷ objects) first added is e h =
    let same : first ≡ row = cc in
    (h.0, alike_more (names_of row.row) (map keyed_row objects) (keyed_row added) h.1 (e ∙ ap (λ (r : KeyedRow). names_of r.row) same))

-- ---- the values of all rows, one after another

values_added : (os : List V.KeyedRow) (o : V.KeyedRow) → all_values (os ++ o ∷ []) ≡ all_values os ++ values_of o.row
values_added [] o = append-nil (values_of o.row)
values_added (p ∷ os) o = ap (λ vs. values_of p.row ++ vs) (values_added os o) ∙ sym (append_assoc (values_of p.row) (all_values os) (values_of o.row))

-- all values of a row were added to the numbers
pub numbers_added : (numbers before : List ℤ) (values : List Value) (i : ℕ) (os : List V.KeyedRow) (o : V.KeyedRow) → length values ≤ i
    → map V.integer numbers ++ map value (drop i values) ≡ map V.integer before ++ map value values → map value values ≡ values_of o.row → map V.integer before ≡ all_values os
    → map V.integer numbers ≡ all_values (os ++ o ∷ [])
numbers_added numbers before values i os o past so_far are held =
    sym (append-nil (map V.integer numbers)) ∙ ap (λ (vs : List Value). map V.integer numbers ++ map value vs) (sym (nothing (drop i values) (omega (arith, length-drop i values, past))))
    ∙ so_far ∙ ap₂ (λ (vs ws : List V.Value). vs ++ ws) held are ∙ sym (values_added os o)
  where
    nothing : (vs : List Value) → length vs ≡ 0 → vs ≡ []
    nothing [] e = refl
    nothing (v ∷ vs) e = absurd (omega (arith, e))

both : (a b c : Bool) → ((a && b) && c) ≡ (a && (b && c))
both true b c = refl
both false b c = refl

pointwise_append : (vs ws xs ys : List V.Value) → length vs ≡ length ws
    → pointwise value_same (vs ++ xs) (ws ++ ys) ≡ (pointwise value_same vs ws && pointwise value_same xs ys)
pointwise_append [] [] xs ys e = refl
pointwise_append [] (w ∷ ws) xs ys e = absurd (omega (arith, e))
pointwise_append (v ∷ vs) [] xs ys e = absurd (omega (arith, e))
pointwise_append (v ∷ vs) (w ∷ ws) xs ys e =
    ap (λ b. value_same v w && b) (pointwise_append vs ws xs ys (omega (arith, e))) ∙ sym (both (value_same v w) (pointwise value_same vs ws) (pointwise value_same xs ys))

as_many : (r s : V.Row) → names_of r ≡ names_of s → length (values_of r) ≡ length (values_of s)
as_many [] [] e = refl
as_many [] (q ∷ s) e = absurd (omega (arith, ap (λ (ns : List V.Name). length ns) e))
as_many (p ∷ r) [] e = absurd (omega (arith, ap (λ (ns : List V.Name). length ns) e))
as_many (p ∷ r) (q ∷ s) e =
    let tail : names_of r ≡ names_of s = cc in
    ap suc (as_many r s tail)

values_tell : (ns : List V.Name) (os ps : List V.KeyedRow) → AreNamed ns os → AreNamed ns ps → length os ≡ length ps
    → pointwise value_same (all_values os) (all_values ps) ≡ pointwise values_same os ps
values_tell ns [] [] h k e = refl
values_tell ns [] (p ∷ ps) h k e = absurd (omega (arith, e))
values_tell ns (o ∷ os) [] h k e = absurd (omega (arith, e))
values_tell ns (o ∷ os) (p ∷ ps) h k e =
    pointwise_append (values_of o.row) (values_of p.row) (all_values os) (all_values ps) (as_many o.row p.row (h.0 ∙ sym k.0))
    ∙ ap (λ b. values_same o p && b) (values_tell ns os ps h.1 k.1 (omega (arith, e)))

-- if all values are integers, as many rows with the same names have the same values if the integers are the same
pub numbers_tell : (numbers others : List ℤ) (os ps : List V.KeyedRow) → map V.integer numbers ≡ all_values os → map V.integer others ≡ all_values ps
    → AreAlike os → AreAlike ps → first_names os ≡ first_names ps → length os ≡ length ps
    → pointwise int_eq numbers others ≡ pointwise values_same os ps
numbers_tell numbers others os ps is is' h k e long =
    pointwise_map V.integer value_same numbers others ∙ ap₂ (pointwise value_same) is is'
    ∙ values_tell (first_names os) os ps h (subst (λ ns. AreNamed ns ps) (sym e) k) long

-- objects with the same keys are equal in number
pub keys_tell : (os ps : List V.KeyedRow) → not (pointwise int_eq (keys_of os) (keys_of ps)) ≡ false → length os ≡ length ps
keys_tell [] [] e = refl
keys_tell [] (p ∷ ps) e = absurd (true≢false e)
keys_tell (o ∷ os) [] e = absurd (true≢false e)
keys_tell (o ∷ os) (p ∷ ps) e = ap suc (keys_tell os ps (rest (int_eq o.key p.key) (pointwise int_eq (keys_of os) (keys_of ps)) e))
  where
    rest : (a b : Bool) → not (a && b) ≡ false → not b ≡ false
    rest true b e = e
    rest false b e = absurd (true≢false e)

-- ---- rows with these names

pub named_alike : (ns : List V.Name) (os : List V.KeyedRow) → AreNamed ns os → AreAlike os
named_alike ns [] named = tt
named_alike ns (o ∷ os) named = subst (λ ms. AreNamed ms (o ∷ os)) (sym named.0) named

pub named_push : (ns : List V.Name) (os : List V.KeyedRow) (o : V.KeyedRow) → AreNamed ns os → names_of o.row ≡ ns → AreNamed ns (os ++ o ∷ [])
named_push ns [] o named here = (here, tt)
named_push ns (p ∷ os) o named here = (named.0, named_push ns os o named.1 here)

pub named_take : (ns : List V.Name) (n : ℕ) (os : List V.KeyedRow) → AreNamed ns os → AreNamed ns (take n os)
named_take ns zero os named = tt
named_take ns (suc n) [] named = tt
named_take ns (suc n) (o ∷ os) named = (named.0, named_take ns n os named.1)

pub named_drop : (ns : List V.Name) (n : ℕ) (os : List V.KeyedRow) → AreNamed ns os → AreNamed ns (drop n os)
named_drop ns zero os named = named
named_drop ns (suc n) [] named = tt
named_drop ns (suc n) (o ∷ os) named = named_drop ns n os named.1

pub named_at : (ns : List V.Name) (rows : List KeyedRow) (i : ℕ) (o : KeyedRow) → i < length rows → o ≡ get_or rows i o → AreNamed ns (map keyed_row rows) → names_of o.row ≡ ns
named_at ns [] i o within is named = absurd (omega arith)
named_at ns (r ∷ rs) zero o within is named = ap (λ (p : KeyedRow). names_of p.row) is ∙ named.0
named_at ns (r ∷ rs) (suc i) o within is named = named_at ns rs i o (omega arith) is named.1

-- ---- a list that is extended by objects

-- one object more
pub extended : (before so_far new : List V.KeyedRow) (objects : List KeyedRow) (i : ℕ) (o : KeyedRow) → i < length objects → o ≡ get_or objects i o
    → so_far ++ map keyed_row (drop i objects) ≡ before ++ map keyed_row objects → new ≡ so_far ++ keyed_row o ∷ [] → new ++ map keyed_row (drop (i + 1) objects) ≡ before ++ map keyed_row objects
extended before so_far new objects i o within is held pushed =
    ap (λ l. l ++ map keyed_row (drop (i + 1) objects)) pushed
    ∙ append_assoc so_far (keyed_row o ∷ []) (map keyed_row (drop (i + 1) objects))
    ∙ ap (λ l. so_far ++ l) (ap (λ (p : KeyedRow). keyed_row p ∷ map keyed_row (drop (i + 1) objects)) is ∙ sym (ap (map keyed_row) (drop_more objects i o within)))
    ∙ held

-- all of those from one place up to another
pub extended_all : (before after all : List V.KeyedRow) (rows part : List KeyedRow) (start count i : ℕ) → map keyed_row rows ≡ all → part ≡ take count (drop start rows) → length part ≤ i
    → after ++ map keyed_row (drop i part) ≡ before ++ map keyed_row part → after ≡ before ++ take count (drop start all)
extended_all before after all rows part start count i view is past held =
    sym (append-nil after) ∙ ap (λ l. after ++ map keyed_row l) (sym (drop_all i part past)) ∙ held
    ∙ ap (λ l. before ++ l) (ap (map keyed_row) is ∙ sym (take-map keyed_row count (drop start rows)) ∙ ap (take count) (sym (drop-map keyed_row start rows) ∙ ap (drop start) view))

-- the part has the names of the whole
pub part_named : (ns : List V.Name) (all : List V.KeyedRow) (rows part : List KeyedRow) (start count : ℕ) → map keyed_row rows ≡ all → part ≡ take count (drop start rows) → AreNamed ns all
    → AreNamed ns (map keyed_row part)
part_named ns all rows part start count view is named =
    subst (AreNamed ns) (sym (ap (map keyed_row) is ∙ sym (take-map keyed_row count (drop start rows)) ∙ ap (take count) (sym (drop-map keyed_row start rows) ∙ ap (drop start) view)))
    (named_take ns count (drop start all) (named_drop ns start all named))
