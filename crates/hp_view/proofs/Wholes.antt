-- Classes that are read as a whole.
use Rattle.std.proofs.Common.{◌≡◌, refl, sym, ap, ◌∙◌, subst, ℕ, ℤ, pos, ◌+◌, ◌<◌, Bool, false, List, [], ◌∷◌, ◌++◌, length, take, get_or, slice_index_or, Option, Some, None, is_some, ◌↔◌, IsTrue}
use Rattle.std.specs.Prelude.{All, IfSome}
use Rattle.std.specs.Bool.{Decides}
use Rattle.std.specs.List.{list_all}
use Rattle.std.proofs.lemmas.List.{get_or-map, length-map, take_more}
use Rattle.std.proofs.lemmas.List.Elements.{All-nil, All-cons, All-head, All-tail, All-push}
use Rattle.hp_model.specs.Values.{Row, KeyedRow}
use Rattle.hp_model.specs.Cells.{CellValue, row_value, status_value, knowledge_value, Cells, object_cell, changed, over, Read, objects_read, Holds, AreKeys, AreObjects}
use Rattle.hp_model.proofs.BridgesCells.{Holds-last, Holds-front}
use Rattle.hp_model.proofs.BridgesKeys.{one_list}
use Rattle.hp_value.specs.Mapped.{keys_of}
use Rattle.hp_value.specs.Same.{row_decides, both_decide}
use Rattle.hp_store.specs.Changes.{changes}
use Rattle.hp_store.specs.Stack.{cells_in}
use Rattle.hp_store.proofs.Wholes.{HasRow, whole_under}
use Rattle.hp_view.specs.Seeing.{Seeing, beneath, written, now_in, noted, keys_were_read, OnlyReads, Shows, ShowsKeys, ShowsObjects}
use Rattle.hp_view.specs.Wholes.{is_row}
use Rattle.hp_view.proofs.Reading.{noted-new}
use Rattle.hp_view.proofs.SameClass.{same_class, same_objects}

-- ---- the objects of a class in cells

one_row : {r s : Row} → Some (row_value r) ≡ Some (row_value s) → r ≡ s
one_row e = cc

-- one list of keys, with the rows that are there, is one list of objects
pub same_rows : (base : Cells) (class : ℕ) (xs ys : List KeyedRow) → keys_of xs ≡ keys_of ys → All (HasRow base class) xs → All (HasRow base class) ys → xs ≡ ys
same_rows base class [] [] same p q = refl
same_rows base class [] (y ∷ ys) same p q = cc
same_rows base class (x ∷ xs) [] same p q = cc
same_rows base class (x ∷ xs) (y ∷ ys) same p q =
    let key : x.key ≡ y.key = cc in
    let rest : keys_of xs ≡ keys_of ys = cc in
    let row : x.row ≡ y.row = one_row (sym (All-head (HasRow base class) x xs p) ∙ ap (λ k. base (object_cell class k)) key ∙ All-head (HasRow base class) y ys q) in
    (λ i. record { key = key i; row = row i } ∷ same_rows base class xs ys rest (All-tail (HasRow base class) x xs p) (All-tail (HasRow base class) y ys q) i)

-- cells have one list of a class's objects
pub one_whole : {base : Cells} {class : ℕ} {xs ys : List KeyedRow} → AreObjects base class xs → AreObjects base class ys → xs ≡ ys
one_whole {base} {class} {xs} {ys} p q = same_rows base class xs ys (one_list p.keys q.keys) p.rows q.rows

-- what is listed, compared with another list
pub compared : {base : Cells} {class : ℕ} {recorded objects : List KeyedRow} (same : Bool) → AreObjects base class recorded → IsTrue same ↔ (recorded ≡ objects)
    → IsTrue same ↔ AreObjects base class objects
compared {base} {class} {recorded} {objects} same are test = (λ t. subst (AreObjects base class) (test.0 t) are, λ others. test.1 (one_whole are others))

-- ---- whether rows are those of their objects

row_is_decides : (o : Option CellValue) (row : Row) → Decides (is_row o row) (o ≡ Some (row_value row))
row_is_decides None row = (λ e. cc, λ e. cc)
row_is_decides (Some (row_value r)) row = (λ e. ap (λ (s : Row). Some (row_value s)) ((row_decides r row).0 e), λ e. (row_decides r row).1 (one_row e))
row_is_decides (Some (status_value s)) row = (λ e. cc, λ e. cc)
row_is_decides (Some (knowledge_value k)) row = (λ e. cc, λ e. cc)

pub rows_decide : (base : Cells) (class : ℕ) (objects : List KeyedRow) → Decides (list_all (λ (o : KeyedRow). is_row (base (object_cell class o.key)) o.row) objects) (All (HasRow base class) objects)
rows_decide base class [] = (λ e. All-nil (HasRow base class), λ all. refl)
rows_decide base class (o ∷ os) =
    both_decide _ _ (row_is_decides (base (object_cell class o.key)) o.row) (rows_decide base class os)
    (λ here rest. All-cons (HasRow base class) o os here rest) (λ all. (All-head (HasRow base class) o os all, All-tail (HasRow base class) o os all))

-- both tests together
pub told_whole : {base : Cells} {class : ℕ} {objects : List KeyedRow} {keys : List ℤ} {rows : List KeyedRow} (has_rows : Bool) → keys ≡ keys_of objects → rows ≡ objects → AreKeys base class keys
    → has_rows ≡ list_all (λ (o : KeyedRow). is_row (base (object_cell class o.key)) o.row) rows → IsTrue has_rows ↔ AreObjects base class objects
told_whole {base} {class} {objects} {keys} {rows} has_rows same_keys same are test =
    let decides = subst (λ os. Decides (list_all (λ (o : KeyedRow). is_row (base (object_cell class o.key)) o.row) os) (All (HasRow base class) os)) same (rows_decide base class rows) in
    let test_is = test ∙ ap (list_all (λ (o : KeyedRow). is_row (base (object_cell class o.key)) o.row)) same in (
      λ t. record { keys = subst (AreKeys base class) same_keys are; rows = (rows_decide base class objects).0 (sym test_is ∙ t) },
      λ whole. test_is ∙ (rows_decide base class objects).1 whole.rows,
    )

-- ---- a call of `whole_beneath`, of `objects` and of `all_objects`

-- a class that is noted now
pub whole_noted : (before : List Read) (class : ℕ) (objects : List KeyedRow) (reads : List Read) → keys_were_read before class ≡ false → reads ≡ noted before (objects_read class objects)
    → (base : Cells) → Holds base reads → AreObjects base class objects
whole_noted before class objects reads first is base here = Holds-last base before (objects_read class objects) (subst (Holds base) (is ∙ noted-new before (objects_read class objects) first) here)

-- objects that are told beneath, where no write names one of the class
pub shows_beneath : {v old new : Seeing} (class : ℕ) (objects : List KeyedRow) → v ≡ old → OnlyReads old new → ((key : ℤ) → written v (object_cell class key) ≡ None)
    → ((base : Cells) → Holds base new.reads → AreObjects base class objects) → ShowsObjects new class objects
shows_beneath {v} {old} {new} class objects from only none held = record {
  everywhere = λ base here.
      whole_under base (written new) class objects (λ key. ap (λ es. changes es (object_cell class key)) (only.writes ∙ ap (λ (u : Seeing). u.writes) (sym from)) ∙ none key) (held base here);
}

-- the same with the writes over them
pub shows_over : {new : Seeing} (class : ℕ) (under objects : List KeyedRow) → ((base : Cells) → Holds base new.reads → AreObjects base class under)
    → ((base : Cells) → AreObjects base class under → AreObjects (over base (written new)) class objects) → ShowsObjects new class objects
shows_over class under objects held over_them = record { everywhere = λ base here. over_them base (held base here) }

-- ---- a call of `read_objects`

-- reads leave the cells
now_only : {old new : Seeing} → OnlyReads old new → now_in new ≡ now_in old
now_only only = (λ i. over (cells_in (only.base i)) (changes (only.writes i)))

-- cells with the same objects of a class have them under the same writes
objects_along : {A B : Cells} {class : ℕ} {objects : List KeyedRow} → ((key : ℤ) → A (object_cell class key) ≡ B (object_cell class key)) → AreObjects A class objects → AreObjects B class objects
objects_along {A} {B} {class} {objects} same are = record {
  keys = record { rise = are.keys.rise; has = λ key. are.keys.has key ∙ ap is_some (same key) };
  rows = λ i d below. sym (same (slice_index_or objects i d).key) ∙ are.rows i d below;
}

same_over : {old new : Seeing} {class : ℕ} {under : List KeyedRow} → OnlyReads old new → Holds (beneath new) new.reads → ((base : Cells) → Holds base new.reads → AreObjects base class under)
    → (base : Cells) → Holds base new.reads → (key : ℤ) → over base (written new) (object_cell class key) ≡ now_in old (object_cell class key)
same_over {old} {new} {class} only held told base here key =
    ap (λ o. changed o (written new (object_cell class key))) (same_objects (told base here) (told (beneath new) held) key) ∙ ap (λ cells. cells (object_cell class key)) (now_only only)

-- a class that was read as a whole
pub whole_still : {old new : Seeing} {class : ℕ} {under objects : List KeyedRow} → OnlyReads old new → Holds (beneath new) new.reads
    → ((base : Cells) → Holds base new.reads → AreObjects base class under)
    → AreObjects (now_in old) class objects → ShowsObjects new class objects
whole_still only held told are = record { everywhere = λ base here. objects_along (λ key. sym (same_over only held told base here key)) are }

-- a fact of each key of the objects, of the objects
by_keys : (P : ℤ → Type 0) (objects : List KeyedRow) → All P (keys_of objects) → All (λ (o : KeyedRow). P o.key) objects
by_keys P objects all = λ i d below.
    subst P (get_or-map (λ (o : KeyedRow). o.key) objects i d d.key below) (all i d.key (subst (λ n. i < n) (sym (length-map objects (λ (o : KeyedRow). o.key))) below))

-- one that is read by its keys, and then row by row
pub read_by_rows : {old mid new : Seeing} {class : ℕ} {keys : List ℤ} {objects : List KeyedRow} → OnlyReads old mid → ShowsKeys mid class keys → Holds (beneath mid) mid.reads → OnlyReads mid new
    → All (λ key. Shows new (object_cell class key) (now_in mid (object_cell class key))) keys → AreObjects (now_in old) class objects → ShowsObjects new class objects
read_by_rows {old} {mid} {new} {class} {keys} {objects} first shows held next rows are = record {
  everywhere = λ base here.
      let before : Holds base mid.reads = Holds-front base mid.reads next.reads.0 (subst (Holds base) next.reads.1 here) in
      record {
        keys = subst (AreKeys (over base (written new)) class) same (subst (λ es. AreKeys (over base (changes es)) class keys) (sym next.writes) (shows.everywhere base before));
        rows = λ i d below. (shown i d below).everywhere base here ∙ ap (λ cells. cells (object_cell class (slice_index_or objects i d).key)) (now_only first) ∙ are.rows i d below;
      };
}
  where
    same : keys ≡ keys_of objects
    same = one_list (subst (λ cells. AreKeys cells class keys) (now_only first) (shows.everywhere (beneath mid) held)) are.keys

    shown : All (λ (o : KeyedRow). Shows new (object_cell class o.key) (now_in mid (object_cell class o.key))) objects
    shown = by_keys (λ key. Shows new (object_cell class key) (now_in mid (object_cell class key))) objects
        (subst (All (λ key. Shows new (object_cell class key) (now_in mid (object_cell class key)))) same rows)

-- what was shown of keys by reads before
pub keys_shown_on : (mid : Seeing) {now new : Seeing} (class : ℕ) (keys : List ℤ) → OnlyReads now new
    → (shown : All (λ key. Shows now (object_cell class key) (now_in mid (object_cell class key))) keys)
    → All (λ key. Shows new (object_cell class key) (now_in mid (object_cell class key))) keys
keys_shown_on mid {now} {new} class keys on shown = λ i d below. record {
  everywhere = λ base here.
      ap (λ es. over base (changes es) (object_cell class (slice_index_or keys i d))) on.writes
      ∙ (shown i d below).everywhere base (Holds-front base now.reads on.reads.0 (subst (Holds base) on.reads.1 here));
}

-- the next key's row is read
pub read_more : (first : Seeing) {now new : Seeing} (class : ℕ) (keys : List ℤ) (i : ℕ) (key : ℤ) → i < length keys → key ≡ get_or keys i (pos 0) → OnlyReads first now → OnlyReads now new
    → All (λ k. Shows now (object_cell class k) (now_in first (object_cell class k))) (take i keys) → Shows new (object_cell class key) (now_in now (object_cell class key))
    → All (λ k. Shows new (object_cell class k) (now_in first (object_cell class k))) (take (i + 1) keys)
read_more first {now} {new} class keys i key within is before only shown here =
    subst (All AtFirst) (sym (take_more keys i (pos 0) within ∙ ap (λ k. take i keys ++ k ∷ []) (sym is)))
    (All-push AtFirst (take i keys) key (keys_shown_on first class (take i keys) only shown)
    (subst (λ cells. Shows new (object_cell class key) (cells (object_cell class key))) (now_only before) here))
  where
    AtFirst : ℤ → Type 0
    AtFirst k = Shows new (object_cell class k) (now_in first (object_cell class k))

-- ---- all cells of a class

-- a class that was read as a whole shows each of its cells
pub cells_of_whole : {old new : Seeing} {class : ℕ} {under : List KeyedRow} → OnlyReads old new → Holds (beneath new) new.reads → ((base : Cells) → Holds base new.reads → AreObjects base class under)
    → (key : ℤ) → Shows new (object_cell class key) (now_in old (object_cell class key))
cells_of_whole only held told key = record { everywhere = λ base here. same_over only held told base here key }

-- and so does one that is read by its keys, and then row by row
pub cells_by_rows : {old mid new : Seeing} {class : ℕ} {keys : List ℤ} → OnlyReads old mid → ShowsKeys mid class keys → Holds (beneath mid) mid.reads → OnlyReads mid new
    → All (λ key. Shows new (object_cell class key) (now_in mid (object_cell class key))) keys → (key : ℤ) → Shows new (object_cell class key) (now_in old (object_cell class key))
cells_by_rows {old} {mid} {new} {class} {keys} first shows held next rows key = record {
  everywhere = λ base here.
      let before : Holds base mid.reads = Holds-front base mid.reads next.reads.0 (subst (Holds base) next.reads.1 here) in
      same_class (subst (λ es. AreKeys (over base (changes es)) class keys) (sym next.writes) (shows.everywhere base before)) (shows.everywhere (beneath mid) held)
      (λ i d below. (rows i d below).everywhere base here) key
      ∙ ap (λ cells. cells (object_cell class key)) (now_only first);
}

-- ---- what is told of an option

pub told_map : {A : Type 0} {P Q : A → Type 0} (o : Option A) → ((a : A) → P a → Q a) → IfSome o P → IfSome o Q
told_map None more told = tt
told_map (Some a) more told = more a told
