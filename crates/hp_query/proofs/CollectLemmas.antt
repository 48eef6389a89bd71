-- The objects of a class, collected one after another.
use Rattle.std.proofs.Common.{suc, ◌+◌, ◌<◌, length, get_or, drop, pos, add-one, subst, ◌≡◌, ℕ, ℤ, List, [], ◌∷◌, ◌++◌, Some, None, refl, sym, ap, ◌∙◌, append_assoc, append-nil}
use Rattle.std.proofs.Math.Seq.{drop-cons}
use Rattle.hp_model.specs.Values.{Row, KeyedRow}
use Rattle.hp_model.specs.State.{Objects, find_object, rows_of, class_keys}
use Rattle.hp_value.specs.Mapped.{keys_of}
use Rattle.hp_query.specs.Looks.{ObjectsRise}
use Rattle.hp_query.proofs.RowLemmas.{AreFound, rows_found}

split_at : (keys : List ℤ) (i : ℕ) (key : ℤ) → i < length keys → key ≡ get_or keys i (pos 0) → drop i keys ≡ key ∷ drop (i + 1) keys
split_at keys i key within is = rw add-one (drop-cons keys i (pos 0) within ∙ ap (λ k. k ∷ drop (suc i) keys) (sym is))

-- these objects, and those with the keys that are left, are the class's
pub record Collects (class : ℕ) (world : Objects) (keys : List ℤ) (objects : List KeyedRow) : Type 0 where
  pub rest : List KeyedRow
  pub are : keys ≡ keys_of rest
  pub found : AreFound world class rest
  pub all : objects ++ rest ≡ rows_of class world

pub collects_first : (class : ℕ) (world : Objects) (keys : List ℤ) → ObjectsRise world → keys ≡ class_keys class world → Collects class world keys []
collects_first class world keys rise are = record { rest = rows_of class world; are = are; found = rows_found class world rise; all = refl }

pub collects_more : {class : ℕ} {world : Objects} (keys : List ℤ) (i : ℕ) (key : ℤ) (objects new : List KeyedRow) (row : Row) → i < length keys → key ≡ get_or keys i (pos 0)
    → Collects class world (drop i keys) objects → Some row ≡ find_object world class key → new ≡ objects ++ record { key = key; row = row } ∷ [] → Collects class world (drop (i + 1) keys) new
collects_more {class} {world} keys i key objects new row within is so_far there pushed =
    subst (Collects class world (drop (i + 1) keys)) (sym pushed) (by so_far.rest (sym (split_at keys i key within is) ∙ so_far.are) so_far.found so_far.all)
  where
    by : (rest : List KeyedRow) → key ∷ drop (i + 1) keys ≡ keys_of rest → AreFound world class rest → objects ++ rest ≡ rows_of class world
        → Collects class world (drop (i + 1) keys) (objects ++ record { key = key; row = row } ∷ [])
    by [] are found all = absurd (cc)
    by (r ∷ rs) are found all =
        let key_is : r.key ≡ key = cc in
        let found_is : Some r.row ≡ Some row = sym found.0 ∙ ap (find_object world class) key_is ∙ sym there in
        let row_is : r.row ≡ row = cc in
        record {
          rest = rs;
          are = cc;
          found = found.1;
          all = append_assoc objects (record { key = key; row = row } ∷ []) rs ∙ ap (λ q. objects ++ q ∷ rs) (λ i. record { key = sym key_is i; row = sym row_is i }) ∙ all;
        }

-- each key that is left has its row
pub collects_each : {class : ℕ} {world : Objects} (keys : List ℤ) (i : ℕ) (key : ℤ) (objects : List KeyedRow) → i < length keys → key ≡ get_or keys i (pos 0)
    → Collects class world (drop i keys) objects
    → None ≡ find_object world class key → ⊥
collects_each {class} {world} keys i key objects within is so_far none = by so_far.rest (sym (split_at keys i key within is) ∙ so_far.are) so_far.found
  where
    by : (rows : List KeyedRow) → key ∷ drop (i + 1) keys ≡ keys_of rows → AreFound world class rows → ⊥
    by [] are found = cc
    by (r ∷ rs) are found =
        let key_is : r.key ≡ key = cc in
        let some : Some r.row ≡ None = sym found.0 ∙ ap (find_object world class) key_is ∙ sym none in
        cc

pub collects_all : {class : ℕ} {world : Objects} {keys : List ℤ} {objects : List KeyedRow} → Collects class world keys objects → keys ≡ [] → objects ≡ rows_of class world
collects_all {class} {world} {keys} {objects} so_far none = by so_far.rest (sym none ∙ so_far.are) so_far.all
  where
    by : (rows : List KeyedRow) → [] ≡ keys_of rows → objects ++ rows ≡ rows_of class world → objects ≡ rows_of class world
    by [] are all = sym (append-nil objects) ∙ all
    by (r ∷ rs) are all = absurd (cc)
