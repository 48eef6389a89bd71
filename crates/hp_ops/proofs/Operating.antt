-- Operations on a view, as operations on states.
use Rattle.std.proofs.Common.{◌≡◌, refl, sym, subst, ℕ, ℤ, true, false, true≢false, Option, Some, None, is_some}
use Rattle.std.specs.Prelude.{Ok, Err, List}
use Rattle.hp_model.specs.Values.{Row, Outcome, exists, missing}
use Rattle.hp_model.specs.Occurrences.{created, updated, deleted}
use Rattle.hp_model.specs.Rules.{Library}
use Rattle.hp_model.specs.State.{State, find_object}
use Rattle.hp_model.specs.Firing.{changed_row}
use Rattle.hp_model.specs.Cells.{Changes, with_change, Read, object_cell, row_value}
use Rattle.hp_model.specs.Answers.{Finds}
use Rattle.hp_model.specs.Operations.{Operated, FaithfulOperation, create_object, update_object, delete_object}
use Rattle.hp_model.proofs.FaithfulOperations.{faithful_create_exists, faithful_create, faithful_update_missing, faithful_update, faithful_delete_missing, faithful_delete}
use Rattle.hp_store.specs.Changes.{changes}
use Rattle.hp_view.specs.Seeing.{Seeing, written, OnlyReads, Writes}

-- what a view finds of an object
abbrev pub ObjectFound : ℕ → ℤ → Seeing → Option Row → Type 0
ObjectFound class key w found = (library : Library) → Finds library (λ S. find_object S.objects class key) w.reads (written w) found

-- an operation that begins with a view's writes before a read
pub from_before : {A : Type 0} {library : Library} {run : State → Operated A} {reads : List Read} {after : Changes} {outcome : Outcome A} {v w : Seeing} → OnlyReads v w
    → FaithfulOperation library run reads (written w) after outcome → FaithfulOperation library run reads (written v) after outcome
from_before {library = library} {run} {reads} {after} {outcome} only p = subst (λ es. FaithfulOperation library run reads (changes es) after outcome) only.writes p

-- and one that has its reads from before the write
pub with_reads : {A : Type 0} {library : Library} {run : State → Operated A} {r s : List Read} {before after : Changes} {outcome : Outcome A} → s ≡ r
    → FaithfulOperation library run r before after outcome → FaithfulOperation library run s before after outcome
with_reads {library = library} {run} {before = before} {after} {outcome} is p = subst (λ x. FaithfulOperation library run x before after outcome) (sym is) p

some_there : (o : Option Row) → is_some o ≡ true → (row : Row) × (o ≡ Some row)
some_there None h = cc
some_there (Some row) h = (row, refl)

none_there : (o : Option Row) → is_some o ≡ false → o ≡ None
none_there None h = refl
none_there (Some row) h = absurd (true≢false h)

-- ---- create

pub create_refused : (v w : Seeing) (class : ℕ) (key : ℤ) (new : Row) (found : Option Row) → is_some found ≡ true → OnlyReads v w → ObjectFound class key w found
    → (library : Library) → FaithfulOperation library (create_object class key new) w.reads (written v) (written w) (Err exists)
create_refused v w class key new found there only finds library =
    let old = some_there found there in
    from_before only (faithful_create_exists class key new old.0 (subst (λ o. Finds library (λ S. find_object S.objects class key) w.reads (written w) o) old.1 (finds library)))

pub create_made : (v w z : Seeing) (class : ℕ) (key : ℤ) (new : Row) (found : Option Row) → is_some found ≡ false → OnlyReads v w → ObjectFound class key w found
    → Writes w z (object_cell class key) (Some (row_value new)) → (library : Library)
    → FaithfulOperation library (create_object class key new) z.reads (written v) (written z) (Ok (created class key new))
create_made v w z class key new found apart only finds writes library =
    with_reads writes.reads (from_before only
    (faithful_create class key new (subst (λ o. Finds library (λ S. find_object S.objects class key) w.reads (written w) o) (none_there found apart) (finds library)) writes.changes))

-- ---- update

pub update_refused : (v w : Seeing) (class : ℕ) (key : ℤ) (given : Row) (found : Option Row) → found ≡ None → OnlyReads v w → ObjectFound class key w found
    → (library : Library) → FaithfulOperation library (update_object class key given) w.reads (written v) (written w) (Err missing)
update_refused v w class key given found is only finds library =
    from_before only (faithful_update_missing class key given (subst (λ o. Finds library (λ S. find_object S.objects class key) w.reads (written w) o) is (finds library)))

pub update_made : (v w z : Seeing) (class : ℕ) (key : ℤ) (given old new : Row) (found : Option Row) → found ≡ Some old → new ≡ changed_row given old → OnlyReads v w → ObjectFound class key w found
    → Writes w z (object_cell class key) (Some (row_value new)) → (library : Library)
    → FaithfulOperation library (update_object class key given) z.reads (written v) (written z) (Ok (updated class key old new))
update_made v w z class key given old new found is changed only finds writes library =
    subst (λ n. FaithfulOperation library (update_object class key given) z.reads (written v) (written z) (Ok (updated class key old n))) (sym changed)
    (with_reads writes.reads (from_before only
    (faithful_update class key given old (subst (λ o. Finds library (λ S. find_object S.objects class key) w.reads (written w) o) is (finds library))
    (subst (λ n. written z ≡ with_row class key w n) changed writes.changes))))
  where
    with_row : ℕ → ℤ → Seeing → Row → Changes
    with_row class key w n = with_change (written w) (object_cell class key) (Some (Some (row_value n)))

-- ---- delete

pub delete_refused : (v w : Seeing) (class : ℕ) (key : ℤ) (found : Option Row) → found ≡ None → OnlyReads v w → ObjectFound class key w found
    → (library : Library) → FaithfulOperation library (delete_object class key) w.reads (written v) (written w) (Err missing)
delete_refused v w class key found is only finds library =
    from_before only (faithful_delete_missing class key (subst (λ o. Finds library (λ S. find_object S.objects class key) w.reads (written w) o) is (finds library)))

pub delete_made : (v w z : Seeing) (class : ℕ) (key : ℤ) (old : Row) (found : Option Row) → found ≡ Some old → OnlyReads v w → ObjectFound class key w found
    → Writes w z (object_cell class key) None → (library : Library)
    → FaithfulOperation library (delete_object class key) z.reads (written v) (written z) (Ok (deleted class key old))
delete_made v w z class key old found is only finds writes library =
    with_reads writes.reads (from_before only
    (faithful_delete class key old (subst (λ o. Finds library (λ S. find_object S.objects class key) w.reads (written w) o) is (finds library)) writes.changes))
