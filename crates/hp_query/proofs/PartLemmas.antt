-- The objects of a part of a class, under a layer and in a world.
use Rattle.std.proofs.Common.{◌≡◌, refl, sym, ap, ap₂, ◌∙◌, ℕ, zero, suc, ◌<◌, ℤ, Bool, true, false, ◌||◌, ◌&&◌, cond, List, [], ◌∷◌, length, map, filter, slice_index_or, Option}
use Rattle.std.proofs.Common.{Some, None, is_some, option_map, Ok, Err, if◌then◌else◌, int_eq, arith}
use Rattle.std.specs.Prelude.{All}
use Rattle.std.specs.Ordering.{int_cmp}
use Rattle.std.specs.List.{list_any, AllByRecursion}
use Rattle.std.proofs.lemmas.Bool.Decides.{Decides-int_eq}
use Rattle.std.proofs.lemmas.List.Elements.{All-head, All-tail}
use Rattle.std.proofs.lemmas.List.Kept.{IsStrictlySortedBy-filter}
use Rattle.std.proofs.lemmas.Map.Views.{any-filter_same}
use Rattle.hp_model.specs.Values.{Row, KeyedRow, Outcome, ◌>>=◌}
use Rattle.hp_model.specs.ClassParts.{ClassPart, belongs, picked}
use Rattle.hp_model.specs.State.{Objects, find_object, rows_of, class_keys}
use Rattle.hp_model.specs.Cells.{Cells, CellValue, row_value, Changes, changed, over, object_cell, belongs_in, ArePart}
use Rattle.hp_value.specs.Mapped.{keys_of}
use Rattle.hp_query.specs.Looks.{ObjectsRise}
use Rattle.hp_query.proofs.RowLemmas.{AreFound, rows_found, class_keys_rise, class_keys_has, same_keys}

-- ---- a part under a layer

any_true : (key j : ℤ) (js : List ℤ) → int_eq key j ≡ true → list_any (int_eq key) (j ∷ js) ≡ true
any_true key j js is = ap (λ b. b || list_any (int_eq key) js) is

any_later : (b : Bool) (key : ℤ) (js : List ℤ) → list_any (int_eq key) js ≡ true → (b || list_any (int_eq key) js) ≡ true
any_later true key js is = refl
any_later false key js is = is

-- an object's key is among those of the objects
is_among : (objects : List KeyedRow) (i : ℕ) (d : KeyedRow) → i < length objects → list_any (int_eq (slice_index_or objects i d).key) (map (λ (o : KeyedRow). o.key) objects) ≡ true
is_among [] i d below = absurd (omega arith)
is_among (o ∷ os) zero d below = any_true o.key o.key (map (λ (o : KeyedRow). o.key) os) ((Decides-int_eq o.key o.key).1 refl)
is_among (o ∷ os) (suc i) d below =
    any_later (int_eq (slice_index_or os i d).key o.key) (slice_index_or os i d).key (map (λ (o : KeyedRow). o.key) os) (is_among os i d (omega arith))

-- at each key of some objects two cells are equal, if both hold the objects' rows
same_at : (f g : ℤ → Option CellValue) (objects : List KeyedRow) → All (λ (o : KeyedRow). f o.key ≡ Some (row_value o.row)) objects → All (λ (o : KeyedRow). g o.key ≡ Some (row_value o.row)) objects
    → (key : ℤ) → list_any (int_eq key) (map (λ (o : KeyedRow). o.key) objects) ≡ true → f key ≡ g key
same_at f g [] fs gs key among = cc
same_at f g (o ∷ os) fs gs key among =
    by (int_eq key o.key) refl (same_at f g os (All-tail (λ (o : KeyedRow). f o.key ≡ Some (row_value o.row)) o os fs) (All-tail (λ (o : KeyedRow). g o.key ≡ Some (row_value o.row)) o os gs)
    key) among
  where
    by : (b : Bool) → int_eq key o.key ≡ b → (list_any (int_eq key) (map (λ (o : KeyedRow). o.key) os) ≡ true → f key ≡ g key)
        → (b || list_any (int_eq key) (map (λ (o : KeyedRow). o.key) os)) ≡ true → f key ≡ g key
    by true is later among =
        let same : key ≡ o.key = (Decides-int_eq key o.key).0 is in
        ap f same ∙ All-head (λ (o : KeyedRow). f o.key ≡ Some (row_value o.row)) o os fs
        ∙ sym (All-head (λ (o : KeyedRow). g o.key ≡ Some (row_value o.row)) o os gs) ∙ ap g (sym same)
    by false is later among = later among

same_ok : (o : Outcome Bool) (a b : Bool) → o ≡ Ok a → o ≡ Ok b → a ≡ b
same_ok (Ok c) a b p q = cc
same_ok (Err c) a b p q = cc

-- a part under a layer depends only on the part beneath and on the layer
module _ (before base : Cells) (layer : Changes) (class : ℕ) (p : ClassPart) (hits now : List KeyedRow) (beneath : ArePart before class p hits)
    (above : ArePart (over before layer) class p now) (told : ArePart base class p hits) where
  has_over : (key : ℤ) (change : Option (Option CellValue)) → layer (object_cell class key) ≡ change
      → belongs_in p key (over base layer (object_cell class key)) ≡ belongs_in p key (over before layer (object_cell class key))
  has_over key (Some x) is = ap (λ c. belongs_in p key (changed (base (object_cell class key)) c)) is ∙ sym (ap (λ c. belongs_in p key (changed (before (object_cell class key)) c)) is)
  has_over key None is =
      ap (λ c. belongs_in p key (changed (base (object_cell class key)) c)) is ∙ told.has key ∙ sym (beneath.has key)
      ∙ sym (ap (λ c. belongs_in p key (changed (before (object_cell class key)) c)) is)

  -- a cell of an object that belongs to the part
  cell_over : (key : ℤ) (change : Option (Option CellValue)) → layer (object_cell class key) ≡ change → list_any (int_eq key) (map (λ (o : KeyedRow). o.key) now) ≡ true
      → over base layer (object_cell class key) ≡ over before layer (object_cell class key)
  cell_over key (Some x) is among = ap (changed (base (object_cell class key))) is ∙ sym (ap (changed (before (object_cell class key))) is)
  cell_over key None is among =
      let belongs_now : belongs_in p key (before (object_cell class key)) ≡ Ok true = sym (ap (λ c. belongs_in p key (changed (before (object_cell class key)) c)) is) ∙ above.has key ∙ ap Ok among in
      let in_hits = same_ok (belongs_in p key (before (object_cell class key))) (list_any (int_eq key) (map (λ (o : KeyedRow). o.key) hits)) true (beneath.has key) belongs_now in
      ap (changed (base (object_cell class key))) is
      ∙ same_at (λ k. base (object_cell class k)) (λ k. before (object_cell class k)) hits told.rows beneath.rows key in_hits
      ∙ sym (ap (changed (before (object_cell class key))) is)

  pub part_over : ArePart (over base layer) class p now
  part_over = record {
    rise = above.rise;
    has = λ key. has_over key (layer (object_cell class key)) refl ∙ above.has key;
    rows = λ i d below.
        let key = (slice_index_or now i d).key in
        cell_over key (layer (object_cell class key)) refl (is_among now i d below) ∙ above.rows i d below;
  }

-- ---- a part in a world

one_row_value : {r s : Row} → Some (row_value r) ≡ Some (row_value s) → r ≡ s
one_row_value e = cc

same_rows : (f : ℤ → Option CellValue) (xs ys : List KeyedRow) → keys_of xs ≡ keys_of ys → AllByRecursion (λ (o : KeyedRow). f o.key ≡ Some (row_value o.row)) xs
    → All (λ (o : KeyedRow). f o.key ≡ Some (row_value o.row)) ys → xs ≡ ys
same_rows f [] [] same p q = refl
same_rows f [] (y ∷ ys) same p q = cc
same_rows f (x ∷ xs) [] same p q = cc
same_rows f (x ∷ xs) (y ∷ ys) same p q =
    let key : x.key ≡ y.key = cc in
    let rest : keys_of xs ≡ keys_of ys = cc in
    let row : x.row ≡ y.row = one_row_value (sym p.0 ∙ ap f key ∙ All-head (λ (o : KeyedRow). f o.key ≡ Some (row_value o.row)) y ys q) in
    (λ i. record { key = key i; row = row i } ∷ same_rows f xs ys rest p.1 (All-tail (λ (o : KeyedRow). f o.key ≡ Some (row_value o.row)) y ys q) i)

module _ (base : Cells) (class : ℕ) (p : ClassPart) (objects : List KeyedRow) (world : Objects) (rise : ObjectsRise world) (are : ArePart base class p objects)
    (same : (key : ℤ) → base (object_cell class key) ≡ option_map row_value (find_object world class key)) where
  abbrev listed : ℤ → Bool
  listed key = list_any (int_eq key) (keys_of objects)

  told : (r : KeyedRow) → find_object world class r.key ≡ Some r.row → belongs p r ≡ Ok (listed r.key)
  told r found = sym (ap (belongs_in p r.key) (same r.key ∙ ap (option_map row_value) found)) ∙ are.has r.key

  picked_all : (rows : List KeyedRow) → AreFound world class rows → picked p rows ≡ Ok (filter (λ (r : KeyedRow). listed r.key) rows)
  picked_all [] found = refl
  picked_all (r ∷ rs) found =
      ap₂ (λ (o : Outcome Bool) (q : Outcome (List KeyedRow)). o >>= λ keep. q >>= λ rest. Ok (if keep then r ∷ rest else rest)) (told r found.0) (picked_all rs found.1)

  filtered_found : (rows : List KeyedRow) → AreFound world class rows
      → AllByRecursion (λ (o : KeyedRow). base (object_cell class o.key) ≡ Some (row_value o.row)) (filter (λ (r : KeyedRow). listed r.key) rows)
  filtered_found [] found = tt
  filtered_found (r ∷ rs) found = by (listed r.key) (same r.key ∙ ap (option_map row_value) found.0) (filtered_found rs found.1)
    where
      rest : List KeyedRow
      rest = filter (λ (q : KeyedRow). listed q.key) rs

      by : (b : Bool) → base (object_cell class r.key) ≡ Some (row_value r.row) → AllByRecursion (λ (o : KeyedRow). base (object_cell class o.key) ≡ Some (row_value o.row)) rest
          → AllByRecursion (λ (o : KeyedRow). base (object_cell class o.key) ≡ Some (row_value o.row)) (cond b (r ∷ rest) rest)
      by true here later = (here, later)
      by false here later = later

  filtered_keys : (rows : List KeyedRow) → keys_of (filter (λ (r : KeyedRow). listed r.key) rows) ≡ filter listed (keys_of rows)
  filtered_keys [] = refl
  filtered_keys (r ∷ rs) = by (listed r.key) (filtered_keys rs)
    where
      rest : List KeyedRow
      rest = filter (λ (q : KeyedRow). listed q.key) rs

      by : (b : Bool) → keys_of rest ≡ filter listed (keys_of rs) → keys_of (cond b (r ∷ rest) rest) ≡ cond b (r.key ∷ filter listed (keys_of rs)) (filter listed (keys_of rs))
      by true later = ap (λ ks. r.key ∷ ks) later
      by false later = later

  is_there : (key : ℤ) (found : Option Row) → belongs_in p key (option_map row_value found) ≡ Ok true → is_some found ≡ true
  is_there key None is = same_ok (Ok false) false true refl is
  is_there key (Some row) is = refl

  among : (key : ℤ) → list_any (int_eq key) (filter listed (class_keys class world)) ≡ listed key
  among key = any-filter_same (int_eq key) listed (listed key) (λ j h. ap listed (sym ((Decides-int_eq key j).0 h))) (class_keys class world) ∙ by (listed key) refl
    where
      by : (b : Bool) → listed key ≡ b → (b && list_any (int_eq key) (class_keys class world)) ≡ b
      by true is = class_keys_has class key world ∙ is_there key (find_object world class key) (sym (ap (belongs_in p key) (same key)) ∙ are.has key ∙ ap Ok is)
      by false is = refl

  -- it is the part of the class's rows, without a fault
  pub part_picked : picked p (rows_of class world) ≡ Ok objects
  part_picked =
      let keys : keys_of (filter (λ (r : KeyedRow). listed r.key) (rows_of class world)) ≡ keys_of objects =
      filtered_keys (rows_of class world)
      ∙ same_keys (filter listed (class_keys class world)) (keys_of objects) (IsStrictlySortedBy-filter int_cmp listed (class_keys class world) (class_keys_rise class world rise)) are.rise among in
      picked_all (rows_of class world) (rows_found class world rise)
      ∙ ap Ok (same_rows (λ key. base (object_cell class key)) (filter (λ (r : KeyedRow). listed r.key) (rows_of class world)) objects keys
      (filtered_found (rows_of class world) (rows_found class world rise)) are.rows)
