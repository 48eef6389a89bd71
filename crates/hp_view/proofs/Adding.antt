-- Reads that calls add, one after the other.
use Rattle.std.specs.Prelude.{IfSome, IfNone}
use Rattle.hp_model.specs.Values.{KeyedRow}
use Rattle.std.proofs.Common.{◌≡◌, refl, sym, ap, ◌∙◌, subst, ℕ, ℤ, Bool, true, false, List, [], ◌∷◌, ◌++◌, Option, Some, None, if◌then◌else◌}
use Rattle.std.specs.List.{AllByRecursion}
use Rattle.hp_model.specs.Cells.{Cell, CellValue, object_cell, Read, cell_read, keys_read, objects_read}
use Rattle.hp_store.specs.Changes.{changes}
use Rattle.hp_view.specs.Adding.{AddsReads, IsOfClass, adds_none, adds_then}
use Rattle.hp_view.specs.Seeing.{Seeing, beneath, written, was_read, noted, noted_unless, read_cell, OnlyReads, ReadsKeys}

pub adds_noted : (P : Read → Type 0) (before : List Read) (r : Read) → P r → AddsReads P before (noted before r)
adds_noted P before r fits = by (was_read before r)
  where
    by : (b : Bool) → AddsReads P before (if b then before else before ++ r ∷ [])
    by true = adds_none P refl
    by false = record { others = r ∷ []; are = refl; allowed = (fits, tt) }

all_more : {P Q : Read → Type 0} (xs : List Read) → ((r : Read) → P r → Q r) → AllByRecursion P xs → AllByRecursion Q xs
all_more [] more p = tt
all_more (x ∷ xs) more p = (more x p.0, all_more xs more p.1)

pub adds_more : {P Q : Read → Type 0} {before after : List Read} → ((r : Read) → P r → Q r) → AddsReads P before after → AddsReads Q before after
adds_more more adds = record { others = adds.others; are = adds.are; allowed = all_more adds.others more adds.allowed }

-- a cell that is read adds its read, where no write covers it
pub adds_cell : (P : Read → Type 0) {old new : Seeing} (cell : Cell) → (written old cell ≡ None → P (cell_read cell (beneath old cell)))
    → new ≡ record old { reads = read_cell old cell } → AddsReads P old.reads new.reads
adds_cell P {old} cell fits is = subst (AddsReads P old.reads) (sym (ap (λ (v : Seeing). v.reads) is)) (by (written old cell) refl)
  where
    by : (w : Option (Option CellValue)) → written old cell ≡ w → AddsReads P old.reads (noted_unless w old.reads (cell_read cell (beneath old cell)))
    by None e = adds_noted P old.reads (cell_read cell (beneath old cell)) (fits e)
    by (Some x) e = adds_none P refl

-- the keys of a class
pub adds_keys : (P : Read → Type 0) {old new : Seeing} {class : ℕ} → ((keys : List ℤ) → P (keys_read class keys)) → ReadsKeys old new class → AddsReads P old.reads new.reads
adds_keys P {old} {new} {class} fits reads =
    subst (AddsReads P old.reads) (sym (ap (λ (v : Seeing). v.reads) reads.keys.2)) (adds_noted P old.reads (keys_read class reads.keys.0) (fits reads.keys.0))

-- ---- a call of `read_rows`

-- a row more of the class was read
pub adds_row : {first old new : Seeing} (class : ℕ) (key : ℤ) → OnlyReads first old → AddsReads (IsOfClass (written first) class) first.reads old.reads
    → new ≡ record old { reads = read_cell old (object_cell class key) } → AddsReads (IsOfClass (written first) class) first.reads new.reads
adds_row {first} {old} {new} class key only so_far is =
    adds_then so_far
    (adds_cell (IsOfClass (written first) class) (object_cell class key) (λ e. (refl, ap (λ es. changes es (object_cell class key)) (sym only.writes) ∙ e)) is)

-- ---- a call of `read_objects`

-- the class as a whole, if it is found so
pub adds_whole : {A : Type 0} (objects_in : A → List KeyedRow) (old new : Seeing) (class : ℕ) (found : Option A)
    → IfSome found (λ a. new ≡ record old { reads = noted old.reads (objects_read class (objects_in a)) }) → IfNone found (new ≡ old)
    → AddsReads (IsOfClass (written old) class) old.reads new.reads
adds_whole objects_in old new class (Some a) some none =
    subst (AddsReads (IsOfClass (written old) class) old.reads) (sym (ap (λ (v : Seeing). v.reads) some))
    (adds_noted (IsOfClass (written old) class) old.reads (objects_read class (objects_in a)) refl)
adds_whole objects_in old new class None some none = adds_none (IsOfClass (written old) class) (ap (λ (v : Seeing). v.reads) none)

-- what was added further on, over the same writes
pub adds_on : {first old : Seeing} (new : Seeing) (class : ℕ) → OnlyReads first old → AddsReads (IsOfClass (written first) class) first.reads old.reads
    → AddsReads (IsOfClass (written old) class) old.reads new.reads
    → AddsReads (IsOfClass (written first) class) first.reads new.reads
adds_on {first} {old} new class only so_far more = adds_then so_far (subst (λ es. AddsReads (IsOfClass (changes es) class) old.reads new.reads) only.writes more)
