-- Reads that are noted once, and what they show wherever they hold.
use Rattle.std.proofs.Common.{◌≡◌, refl, sym, ap, ◌∙◌, subst, ℕ, ℤ, Bool, true, false, true≢false, ◌||◌, ◌==◌, List, [], ◌∷◌, ◌++◌, append-nil, length, drop, Option, Some, None, Result, Ok, Err}
use Rattle.std.proofs.Common.{is_some, if◌then◌else◌, arith}
use Rattle.std.specs.Prelude.{IfSome, IfOk, OnOk, option_map}
use Rattle.std.specs.List.{list_any}
use Rattle.std.proofs.lemmas.Bool.Decides.{Decides-eqb}
use Rattle.hp_model.specs.Cells.{Cell, CellValue, Cells, Changes, object_cell, rule_cell, detector_cell, changed, over, same_cell, Read, cell_read, keys_read, greatest_read}
use Rattle.hp_model.specs.Cells.{count_read, objects_read, part_read, ReadHolds, ReadsHold, Holds, AreKeys, AreObjects}
use Rattle.hp_model.proofs.BridgesCells.{exact_cell, Holds-push, Holds-last}
use Rattle.hp_model.proofs.BridgesKeys.{one_list}
use Rattle.hp_value.specs.Mapped.{keys_of}
use Rattle.hp_store.specs.Changes.{Entries, changes}
use Rattle.hp_view.specs.Keeping.{KeepsObject}
use Rattle.hp_view.specs.Seeing.{Seeing, beneath, written, now_in, undone, reads_cell, class_was_read, row_was_read, cell_was_read, keys_were_read, was_read, noted, noted_unless}
use Rattle.hp_view.specs.Seeing.{read_cell, OnlyReads, GoesOn, ReadsKeys, Shows, ShowsKeys}
use Rattle.hp_view.proofs.SameClass.{same_objects}

-- ---- reads that are noted

-- a read that is true of the cells
pub Holds-noted : (base : Cells) (reads : List Read) (r : Read) → Holds base reads → ReadHolds base r → Holds base (noted reads r)
Holds-noted base reads r held told = by (was_read reads r)
  where
    by : (b : Bool) → Holds base (if b then reads else reads ++ r ∷ [])
    by true = held
    by false = Holds-push base reads r held told

-- noting only adds
pub noted-more : (reads : List Read) (r : Read) → (more : List Read) × (noted reads r ≡ reads ++ more)
noted-more reads r = by (was_read reads r)
  where
    by : (b : Bool) → (more : List Read) × ((if b then reads else reads ++ r ∷ []) ≡ reads ++ more)
    by true = ([], sym (append-nil reads))
    by false = (r ∷ [], refl)

pub noted-new : (reads : List Read) (r : Read) → was_read reads r ≡ false → noted reads r ≡ reads ++ r ∷ []
noted-new reads r e = ap (λ b. if b then reads else reads ++ r ∷ []) e

pub noted-again : (reads : List Read) (r : Read) → was_read reads r ≡ true → noted reads r ≡ reads
noted-again reads r e = ap (λ b. if b then reads else reads ++ r ∷ []) e

-- ---- the same wherever the reads hold

-- a cell that was read by itself
pub itself_again : (B C : Cells) (cell : Cell) (reads : List Read) → ReadsHold B reads → ReadsHold C reads → list_any (reads_cell cell) reads ≡ true → B cell ≡ C cell
itself_again B C cell [] b c h = absurd (true≢false (sym h))
itself_again B C cell (cell_read q value ∷ rs) b c h = by (same_cell cell q) refl h (itself_again B C cell rs b.1 c.1)
  where
    by : (t : Bool) → same_cell cell q ≡ t → (t || list_any (reads_cell cell) rs) ≡ true → (list_any (reads_cell cell) rs ≡ true → B cell ≡ C cell) → B cell ≡ C cell
    by true e h rest = ap B (exact_cell cell q e) ∙ b.0 ∙ sym c.0 ∙ sym (ap C (exact_cell cell q e))
    by false e h rest = rest h
itself_again B C cell (keys_read class keys ∷ rs) b c h = itself_again B C cell rs b.1 c.1 h
itself_again B C cell (greatest_read class greatest ∷ rs) b c h = itself_again B C cell rs b.1 c.1 h
itself_again B C cell (count_read class count ∷ rs) b c h = itself_again B C cell rs b.1 c.1 h
itself_again B C cell (objects_read class objects ∷ rs) b c h = itself_again B C cell rs b.1 c.1 h
itself_again B C cell (part_read class part objects ∷ rs) b c h = itself_again B C cell rs b.1 c.1 h

-- an object whose class was read as a whole
row_again : (B C : Cells) (class : ℕ) (key : ℤ) (reads : List Read) → ReadsHold B reads → ReadsHold C reads → class_was_read reads class ≡ true → B (object_cell class key) ≡ C (object_cell class key)
row_again B C class key [] b c h = absurd (true≢false (sym h))
row_again B C class key (cell_read q value ∷ rs) b c h = row_again B C class key rs b.1 c.1 h
row_again B C class key (keys_read n keys ∷ rs) b c h = by (class == n) h (row_again B C class key rs b.1 c.1)
  where
    by : (t : Bool) → (if t then false else class_was_read rs class) ≡ true → (class_was_read rs class ≡ true → B (object_cell class key) ≡ C (object_cell class key))
        → B (object_cell class key) ≡ C (object_cell class key)
    by true h rest = absurd (true≢false (sym h))
    by false h rest = rest h
row_again B C class key (greatest_read n greatest ∷ rs) b c h = row_again B C class key rs b.1 c.1 h
row_again B C class key (count_read n count ∷ rs) b c h = row_again B C class key rs b.1 c.1 h
row_again B C class key (objects_read n objects ∷ rs) b c h = by (class == n) refl h (row_again B C class key rs b.1 c.1)
  where
    by : (t : Bool) → (class == n) ≡ t → (if t then true else class_was_read rs class) ≡ true → (class_was_read rs class ≡ true → B (object_cell class key) ≡ C (object_cell class key))
        → B (object_cell class key) ≡ C (object_cell class key)
    by true e h rest =
        let here : n ≡ class = sym ((Decides-eqb class n).0 e) in
        same_objects (subst (λ k. AreObjects B k objects) here b.0) (subst (λ k. AreObjects C k objects) here c.0) key
    by false e h rest = rest h
row_again B C class key (part_read n part objects ∷ rs) b c h = row_again B C class key rs b.1 c.1 h

cell_again : (B C : Cells) (cell : Cell) (reads : List Read) → ReadsHold B reads → ReadsHold C reads → cell_was_read reads cell ≡ true → B cell ≡ C cell
cell_again B C cell reads b c h = by (list_any (reads_cell cell) reads) refl h
  where
    with_class : (q : Cell) → row_was_read reads q ≡ true → B q ≡ C q
    with_class (object_cell class key) h = row_again B C class key reads b c h
    with_class (rule_cell n) h = absurd (true≢false (sym h))
    with_class (detector_cell n) h = absurd (true≢false (sym h))

    by : (t : Bool) → list_any (reads_cell cell) reads ≡ t → (t || row_was_read reads cell) ≡ true → B cell ≡ C cell
    by true e h = itself_again B C cell reads b c e
    by false e h = with_class cell h

pub keys_again : (B C : Cells) (class : ℕ) (keys : List ℤ) (reads : List Read) → ReadsHold B reads → ReadsHold C reads → AreKeys C class keys → keys_were_read reads class ≡ true → AreKeys B class keys
keys_again B C class keys [] b c are h = absurd (true≢false (sym h))
keys_again B C class keys (cell_read q value ∷ rs) b c are h = keys_again B C class keys rs b.1 c.1 are h
keys_again B C class keys (keys_read n found ∷ rs) b c are h = by (class == n) refl h (keys_again B C class keys rs b.1 c.1 are)
  where
    by : (t : Bool) → (class == n) ≡ t → (t || keys_were_read rs class) ≡ true → (keys_were_read rs class ≡ true → AreKeys B class keys) → AreKeys B class keys
    by true e h rest =
        let here : n ≡ class = sym ((Decides-eqb class n).0 e) in
        subst (AreKeys B class) (one_list (subst (λ k. AreKeys C k found) here c.0) are) (subst (λ k. AreKeys B k found) here b.0)
    by false e h rest = rest h
keys_again B C class keys (greatest_read n greatest ∷ rs) b c are h = keys_again B C class keys rs b.1 c.1 are h
keys_again B C class keys (count_read n count ∷ rs) b c are h = keys_again B C class keys rs b.1 c.1 are h
keys_again B C class keys (objects_read n found ∷ rs) b c are h = by (class == n) refl h (keys_again B C class keys rs b.1 c.1 are)
  where
    by : (t : Bool) → (class == n) ≡ t → (t || keys_were_read rs class) ≡ true → (keys_were_read rs class ≡ true → AreKeys B class keys) → AreKeys B class keys
    by true e h rest =
        let here : n ≡ class = sym ((Decides-eqb class n).0 e) in
        subst (AreKeys B class) (one_list (subst (λ k. AreKeys C k (keys_of found)) here c.0.keys) are) (subst (λ k. AreKeys B k (keys_of found)) here b.0.keys)
    by false e h rest = rest h
keys_again B C class keys (part_read n part objects ∷ rs) b c are h = keys_again B C class keys rs b.1 c.1 are h

-- a cell once it is noted, and the keys of a class
pub cell_noted : (B C : Cells) (cell : Cell) (reads : List Read) → Holds C reads → Holds B (noted reads (cell_read cell (C cell))) → B cell ≡ C cell
cell_noted B C cell reads c b = by (cell_was_read reads cell) refl b
  where
    by : (t : Bool) → cell_was_read reads cell ≡ t → Holds B (if t then reads else reads ++ cell_read cell (C cell) ∷ []) → B cell ≡ C cell
    by true e b = cell_again B C cell reads b.each c.each e
    by false e b = Holds-last B reads (cell_read cell (C cell)) b

pub keys_noted : (B C : Cells) (class : ℕ) (keys : List ℤ) (reads : List Read) → Holds C reads → AreKeys C class keys → Holds B (noted reads (keys_read class keys)) → AreKeys B class keys
keys_noted B C class keys reads c are b = by (keys_were_read reads class) refl b
  where
    by : (t : Bool) → keys_were_read reads class ≡ t → Holds B (if t then reads else reads ++ keys_read class keys ∷ []) → AreKeys B class keys
    by true e b = keys_again B C class keys reads b.each c.each are e
    by false e b = Holds-last B reads (keys_read class keys) b

-- ---- what a view shows

-- a cell that was read
pub shows_read : (v : Seeing) (cell : Cell) → Holds (beneath v) v.reads → Shows (record v { reads = read_cell v cell }) cell (now_in v cell)
shows_read v cell held = record { everywhere = λ base here. by (written v cell) refl base here }
  where
    by : (w : Option (Option CellValue)) → written v cell ≡ w → (base : Cells) → Holds base (noted_unless w v.reads (cell_read cell (beneath v cell)))
        → changed (base cell) (written v cell) ≡ changed (beneath v cell) (written v cell)
    by None e base here = ap (λ o. changed o (written v cell)) (cell_noted base (beneath v) cell v.reads held here)
    by (Some x) e base here = ap (changed (base cell)) e ∙ sym (ap (changed (beneath v cell)) e)

-- the keys of a class, with the writes over them
pub shows_keys : (v : Seeing) (class : ℕ) (keys merged : List ℤ) → Holds (beneath v) v.reads → AreKeys (beneath v) class keys
    → ((base : Cells) → AreKeys base class keys → AreKeys (over base (written v)) class merged)
    → ShowsKeys (record v { reads = noted v.reads (keys_read class keys) }) class merged
shows_keys v class keys merged held are over_them = record { everywhere = λ base here. over_them base (keys_noted base (beneath v) class keys v.reads held are here) }

-- the reads of a cell are true of the snapshot
Holds-read : (v : Seeing) (cell : Cell) → Holds (beneath v) v.reads → Holds (beneath v) (read_cell v cell)
Holds-read v cell held = by (written v cell)
  where
    by : (w : Option (Option CellValue)) → Holds (beneath v) (noted_unless w v.reads (cell_read cell (beneath v cell)))
    by None = Holds-noted (beneath v) v.reads (cell_read cell (beneath v cell)) held refl
    by (Some x) = held

-- ---- views that go on

read-more : (v : Seeing) (cell : Cell) → (more : List Read) × (read_cell v cell ≡ v.reads ++ more)
read-more v cell = by (written v cell)
  where
    by : (w : Option (Option CellValue)) → (more : List Read) × (noted_unless w v.reads (cell_read cell (beneath v cell)) ≡ v.reads ++ more)
    by None = noted-more v.reads (cell_read cell (beneath v cell))
    by (Some x) = ([], sym (append-nil v.reads))

pub GoesOn-only : {old new : Seeing} → OnlyReads old new → GoesOn old new
GoesOn-only {old} {new} only = record {
  base = only.base;
  reads = only.reads;
  undo = omega (arith, ap length only.undo);
  before = λ n within. (λ i. undone (drop n (only.undo i)) (changes (only.writes i)));
}

-- more reads, and nothing else
only_more : {v old : Seeing} (reads : List Read) → v ≡ old → (more : List Read) × (reads ≡ v.reads ++ more) → OnlyReads old (record v { reads = reads })
only_more {v} {old} reads from more = subst (λ u. OnlyReads u (record v { reads = reads })) from (record { base = refl; reads = more; writes = refl; undo = refl })

-- ---- a call of `read`, on a view whose fields make v

-- a cell that the writes cover
pub shows_covered : {v old : Seeing} (cell : Cell) → v ≡ old → is_some (written v cell) ≡ true → Shows old cell (now_in old cell)
shows_covered {v} {old} cell from covered = subst (λ u. Shows u cell (now_in u cell)) from (record { everywhere = λ base here. by (written v cell) covered (base cell) (beneath v cell) })
  where
    by : (w : Option (Option CellValue)) → is_some w ≡ true → (x y : Option CellValue) → changed x w ≡ changed y w
    by None h x y = cc
    by (Some z) h x y = refl

-- a cell that was read before
pub shows_again : {v old : Seeing} (cell : Cell) → v ≡ old → Holds (beneath v) v.reads → cell_was_read v.reads cell ≡ true → Shows old cell (now_in old cell)
shows_again {v} {old} cell from held again =
    subst (λ u. Shows u cell (now_in u cell)) from
    (record { everywhere = λ base here. ap (λ o. changed o (written v cell)) (cell_again base (beneath v) cell v.reads here.each held.each again) })

-- a cell that was read by itself, and one that was read with its class
pub read_by_itself : (reads : List Read) (cell : Cell) → list_any (reads_cell cell) reads ≡ true → cell_was_read reads cell ≡ true
read_by_itself reads cell is = ap (λ b. b || row_was_read reads cell) is

pub read_with_class : (reads : List Read) (cell : Cell) → row_was_read reads cell ≡ true → cell_was_read reads cell ≡ true
read_with_class reads cell is = by (list_any (reads_cell cell) reads)
  where
    by : (b : Bool) → (b || row_was_read reads cell) ≡ true
    by true = refl
    by false = is

-- a cell's value that is told beneath, where no write covers it
pub peeked : {v old : Seeing} (cell : Cell) (value : Option CellValue) → v ≡ old → Holds (beneath v) v.reads → is_some (written v cell) ≡ false
    → ((base : Cells) → Holds base v.reads → value ≡ base cell) → value ≡ now_in old cell
peeked {v} {old} cell value from held uncovered told = told (beneath v) held ∙ by (written v cell) uncovered ∙ ap (λ u. now_in u cell) from
  where
    by : (w : Option (Option CellValue)) → is_some w ≡ false → beneath v cell ≡ changed (beneath v cell) w
    by None h = refl
    by (Some x) h = cc

pub holds_from : {v old : Seeing} → v ≡ old → Holds (beneath v) v.reads → Holds (beneath old) old.reads
holds_from from held = subst (λ u. Holds (beneath u) u.reads) from held

-- a cell that is noted
pub record Noted (v old : Seeing) (cell : Cell) (reads : List Read) : Type 0 where
  pub held : Holds (beneath v) reads
  pub shows : Shows (record v { reads = reads }) cell (now_in old cell)
  pub only : OnlyReads old (record v { reads = reads })

pub noted_first : {v old : Seeing} (cell : Cell) (reads : List Read) (value : Option CellValue)
    → v ≡ old → Holds (beneath v) v.reads → is_some (written v cell) ≡ false → reads ≡ noted v.reads (cell_read cell value) → value ≡ beneath v cell → Noted v old cell reads
noted_first {v} {old} cell reads value from held uncovered is what = record {
  held = subst (Holds (beneath v)) (sym all) (Holds-read v cell held);
  shows = subst (λ rs. Shows (record v { reads = rs }) cell (now_in old cell)) (sym all)
      (subst (λ u. Shows (record v { reads = read_cell v cell }) cell (now_in u cell)) from (shows_read v cell held));
  only = only_more reads from (subst (λ rs. (more : List Read) × (rs ≡ v.reads ++ more)) (sym all) (read-more v cell));
}
  where
    by : (w : Option (Option CellValue)) → is_some w ≡ false → noted v.reads (cell_read cell (beneath v cell)) ≡ noted_unless w v.reads (cell_read cell (beneath v cell))
    by None h = refl
    by (Some x) h = cc

    all : reads ≡ read_cell v cell
    all = is ∙ ap (λ o. noted v.reads (cell_read cell o)) what ∙ by (written v cell) uncovered

-- ---- a call of `keys`

-- keys that were read before
pub reads_keys_again : {v old : Seeing} (class : ℕ) (keys : List ℤ) → v ≡ old → AreKeys (beneath v) class keys → keys_were_read v.reads class ≡ true → ReadsKeys old old class
reads_keys_again {v} {old} class keys from are again =
    subst (λ u. ReadsKeys u u class) from (record { keys = (keys, are, λ i. record v { reads = sym (noted-again v.reads (keys_read class keys) again) i }) })

pub shows_keys_again : {v old : Seeing} (class : ℕ) (keys merged : List ℤ) → v ≡ old → Holds (beneath v) v.reads → AreKeys (beneath v) class keys → keys_were_read v.reads class ≡ true
    → ((base : Cells) → AreKeys base class keys → AreKeys (over base (written v)) class merged) → ShowsKeys old class merged
shows_keys_again {v} {old} class keys merged from held are again over_them =
    subst (λ u. ShowsKeys u class merged) from
    (subst (λ rs. ShowsKeys (record v { reads = rs }) class merged) (noted-again v.reads (keys_read class keys) again) (shows_keys v class keys merged held are over_them))

-- reads that grew by one
pub noted_only : {v old : Seeing} (r : Read) (reads : List Read) → v ≡ old → reads ≡ noted v.reads r → OnlyReads old (record v { reads = reads })
noted_only {v} {old} r reads from is = only_more reads from (subst (λ rs. (more : List Read) × (rs ≡ v.reads ++ more)) (sym is) (noted-more v.reads r))

pub noted_held : (v : Seeing) (r : Read) (reads : List Read) → Holds (beneath v) v.reads → ReadHolds (beneath v) r → reads ≡ noted v.reads r → Holds (beneath v) reads
noted_held v r reads held told is = subst (Holds (beneath v)) (sym is) (Holds-noted (beneath v) v.reads r held told)

-- keys that are noted
pub record NotedKeys (v old : Seeing) (class : ℕ) (merged : List ℤ) (reads : List Read) : Type 0 where
  pub held : Holds (beneath v) reads
  pub shows : ShowsKeys (record v { reads = reads }) class merged
  pub only : OnlyReads old (record v { reads = reads })

pub noted_keys : {v old : Seeing} (class : ℕ) (keys merged : List ℤ) (reads : List Read) → v ≡ old → Holds (beneath v) v.reads → AreKeys (beneath v) class keys
    → ((base : Cells) → AreKeys base class keys → AreKeys (over base (written v)) class merged) → reads ≡ noted v.reads (keys_read class keys) → NotedKeys v old class merged reads
noted_keys {v} {old} class keys merged reads from held are over_them is = record {
  held = noted_held v (keys_read class keys) reads held are is;
  shows = subst (λ rs. ShowsKeys (record v { reads = rs }) class merged) (sym is) (shows_keys v class keys merged held are over_them);
  only = noted_only (keys_read class keys) reads from is;
}

-- a layer makes the same keys of all cells with the same keys
keys_over_same : (base other : Cells) (layer : Changes) (class : ℕ) (under keys : List ℤ) → AreKeys base class under → AreKeys other class under
    → AreKeys (over other layer) class keys → AreKeys (over base layer) class keys
keys_over_same base other layer class under keys here there are = record {
  rise = are.rise;
  has = λ key. are.has key ∙ by key (layer (object_cell class key));
}
  where
    by : (key : ℤ) (change : Option (Option CellValue)) → is_some (changed (other (object_cell class key)) change) ≡ is_some (changed (base (object_cell class key)) change)
    by key None = sym (there.has key) ∙ here.has key
    by key (Some value) = refl

-- keys that are told beneath are those of the view, where its writes leave the class's objects where they are
pub keys_kept : {v old : Seeing} (class : ℕ) (recorded : List ℤ) → v ≡ old → AreKeys (beneath v) class recorded → ((key : ℤ) → KeepsObject (beneath v) v.writes class key)
    → AreKeys (now_in old) class recorded
keys_kept {v} {old} class recorded from are keeps =
    subst (λ u. AreKeys (now_in u) class recorded) from (record { rise = are.rise; has = λ key. are.has key ∙ sym (keeps key) })

-- ---- a call of `read_keys`

-- keys that were read before are shown, whatever the writes made of them
pub shows_keys_still : {v old : Seeing} (class : ℕ) (under keys : List ℤ) → v ≡ old → Holds (beneath v) v.reads → AreKeys (beneath v) class under → keys_were_read v.reads class ≡ true
    → AreKeys (now_in old) class keys → ShowsKeys old class keys
shows_keys_still {v} {old} class under keys from held are again now =
    shows_keys_again class under keys from held are again
    (λ base here. keys_over_same base (beneath v) (written v) class under keys here are (subst (λ u. AreKeys (now_in u) class keys) (sym from) now))

-- keys that are noted
pub noted_shown : {v old : Seeing} (class : ℕ) (under keys : List ℤ) (reads : List Read) → v ≡ old → Holds (beneath v) v.reads → AreKeys (beneath v) class under
    → reads ≡ noted v.reads (keys_read class under) → AreKeys (now_in old) class keys → NotedKeys v old class keys reads
noted_shown {v} {old} class under keys reads from held are is now =
    noted_keys class under keys reads from held are
    (λ base here. keys_over_same base (beneath v) (written v) class under keys here are (subst (λ u. AreKeys (now_in u) class keys) (sym from) now)) is

-- what a layer makes of keys, by a layer and a list that are the same
pub merged_over : {under keys merged : List ℤ} {class : ℕ} {es writes : Entries} → under ≡ keys → es ≡ writes
    → ((base : Cells) → AreKeys base class under → AreKeys (over base (changes es)) class merged) → (base : Cells) → AreKeys base class keys → AreKeys (over base (changes writes)) class merged
merged_over {under} {keys} {merged} {class} {es} {writes} same shared over_them base are =
    subst (λ l. AreKeys (over base (changes l)) class merged) shared (over_them base (subst (AreKeys base class) (sym same) are))

-- what is told where keys are found
pub some_told : {A : Type 0} {P : A → Type 0} (o : Option A) → IfSome o P → is_some o ≡ true → (a : A) × P a
some_told None told found = absurd (true≢false (sym found))
some_told (Some a) told found = (a, told)

-- an option that is seen by a function
pub some_seen : {A B : Type 0} (f : A → B) (o : Option A) {w : Option B} → option_map f o ≡ w → is_some w ≡ is_some o
some_seen f None is = ap is_some (sym is)
some_seen f (Some a) is = ap is_some (sym is)

-- what a value is, and what is so whether or not there is one
pub on_same : {X E Y : Type 0} (f : X → Y) (r : Result X E) {x y : Y} → IfOk r (λ c. f c ≡ x) → x ≡ y → IfOk r (λ c. f c ≡ y)
on_same f (Ok c) told more = told ∙ more
on_same f (Err e) told more = tt

pub always : {A E P : Type 0} (r : Result A E) → P → OnOk r P
always (Ok a) told = told
always (Err e) told = tt
