-- Indexes of fields.
use Rattle.std.proofs.Common.{◌≡◌, refl, ap, ap₂, sym, ◌∙◌, subst, ℕ, ℤ, Bool, true, false, cond, List, [], ◌∷◌, Option, Some, None, IsTrue, is_some, ◌++◌, append_assoc, Ok, Bor}
use Rattle.std.specs.Prelude.{option_map, MatchOption, ⊤, string_bytes, if◌then◌else◌}
use Rattle.std.specs.Map.{lookup}
use Rattle.std.specs.Ordering.{int_cmp}
use Rattle.std.specs.BTreeMap.{is_at}
use Rattle.std.specs.BTreeSet.{BTreeSet, contains}
use Rattle.std.proofs.lemmas.Bool.Decides.{Decides-int_eq}
use Rattle.hp_model.specs.Values as V
use Rattle.hp_model.specs.Values.{Name, Outcome, fits_64, ◌>>=◌}
use Rattle.hp_model.specs.Expressions.{field_in}
use Rattle.hp_model.specs.ClassParts.{ClassPart, field_attribute, belongs, lies_within}
use Rattle.hp_model.specs.Cells as C
use Rattle.hp_model.specs.Cells.{Cell, object_cell, row_value, Cells, CellValue, belongs_in, same_cell}
use Rattle.hp_value.specs.declared.class_part.Bounds.{Bounds}
use Rattle.hp_value.specs.Mapped.{low, high}
use Rattle.hp_store.specs.declared.base.Base.{Base}
use Rattle.hp_store.specs.declared.index.Index.{Index}
use Rattle.std.specs.Global.{Vec}
use Rattle.hp_store.specs.Tables.{base_cells}
use Rattle.hp_store.specs.declared.value.CellValue.{CellValue as Held}
use Rattle.hp_store.specs.Mapped.{cell_value}
use Rattle.hp_store.proofs.Cells.{int_at}
use Rattle.hp_store.specs.declared.place.Place.{Place}
use Rattle.hp_store.specs.Indexed.{is_between, Stands, IsIn, IsComplete, AreComplete, with_value}
use Rattle.hp_store.specs.Parts.{Covers, is_among}
use Rattle.hp_store.specs.Places.{place_cmp, key_at, place_of, place_at, value_place, is_other}
use Rattle.hp_store.proofs.Placed.{place_out, key_of_place}
use Rattle.hp_store.proofs.Ranged.{least, greatest}

-- ---- the keys of an index cover a part of its class

pub covers_index : (index : Index) (b : Bounds) (others found : List ℤ) (field : Name) (p : ClassPart) (class : ℕ) (cells : Cells)
    → p ≡ record { attribute = field_attribute field; low = low b; high = high b } → others ≡ []
    → ((q : Place) → Stands index.places q → is_other b q ≡ true → is_among others (key_at q) ≡ true)
    → ((q : Place) → contains place_cmp index.places q ≡ true → is_between (value_place least (low b)) (value_place greatest (high b)) q ≡ true → is_among found (key_at q) ≡ true)
    → index.class ≡ class → string_bytes index.field ≡ field → IsComplete cells index → Covers (is_among found) p class cells
covers_index index b others found field p class cells is none other between of named all key out =
    by (cells (object_cell class key)) (subst (λ f. MatchOption (place_at f key (cells (object_cell class key))) ⊤ (Stands index.places)) named
    (subst (λ c. IsIn index key (cells (object_cell c key))) of (all key)))
  where
    placed : (o : Outcome V.Value) → Stands index.places (place_of key o) → (o >>= λ v. lies_within (low b) (high b) v) ≡ Ok false
    placed o there =
        place_out b o key (subst (λ k. IsTrue (fits_64 k)) (key_of_place key o) there.1) (apart (is_other b (place_of key o)) refl)
        (missing (is_between (value_place least (low b)) (value_place greatest (high b)) (place_of key o)) refl)
      where
        apart : (c : Bool) → is_other b (place_of key o) ≡ c → c ≡ false
        apart true at = absurd (cc (sym (ap (λ l. is_among l (key_at (place_of key o))) none) ∙ other (place_of key o) there at))
        apart false at = refl

        missing : (c : Bool) → is_between (value_place least (low b)) (value_place greatest (high b)) (place_of key o) ≡ c → c ≡ false
        missing true at = absurd (cc (sym (between (place_of key o) there.0 at) ∙ ap (is_among found) (key_of_place key o) ∙ out))
        missing false at = refl

    by : (v : Option CellValue) → MatchOption (place_at field key v) ⊤ (Stands index.places) → belongs_in p key v ≡ Ok false
    by None there = refl
    by (Some (row_value row)) there = ap (λ q. belongs q (record { key = key; row = row })) is ∙ placed (field_in row field) there
    by (Some (C.status_value s)) there = refl
    by (Some (C.knowledge_value k)) there = refl

pub none_found : (r : Option ℤ) (b : Bool) (P : Type 0) (Q : ℤ → Type 0) → b ≡ is_some r → b ≡ false → MatchOption r P Q → P
none_found None b P Q is none told = told
none_found (Some k) b P Q is none told = absurd (cc (sym none ∙ is))

-- ---- the objects of a table, one after the other

-- the table is what has been taken in, and what is left
pub record Enters (index : Index) (es left : List (ℤ × Held)) : Type 0 where
  pub done : List (ℤ × Held)
  pub are : es ≡ done ++ left
  pub entered : (key : ℤ) → IsIn index key (option_map cell_value (lookup (is_at (int_cmp key)) done))

pub enters_none : (index : Index) (es : List (ℤ × Held)) → Enters index es es
enters_none index es = record { done = []; are = refl; entered = λ key. tt }

pub enters_more : (index new : Index) (es left rest : List (ℤ × Held)) (k : ℤ) (v : Held) → left ≡ (k, v) ∷ rest
    → ((key : ℤ) (w : Option CellValue) → IsIn index key w → IsIn new key w) → IsIn new k (Some (cell_value v)) → Enters index es left → Enters new es rest
enters_more index new es left rest k v step kept entered have = record {
  done = have.done ++ (k, v) ∷ [];
  are = have.are ∙ ap (λ l. have.done ++ l) step ∙ sym (append_assoc have.done ((k, v) ∷ []) rest);
  entered = λ key. by key have.done (kept key (option_map cell_value (lookup (is_at (int_cmp key)) have.done)) (have.entered key));
}
  where
    last : (key : ℤ) (b : Bool) → is_at (int_cmp key) k ≡ b → IsIn new key (option_map cell_value (cond b (Some v) None))
    last key true is = subst (λ j. IsIn new j (Some (cell_value v))) (sym ((Decides-int_eq key k).0 (sym (int_at key k) ∙ is))) entered
    last key false is = tt

    choice : (key : ℤ) (e : ℤ × Held) (done : List (ℤ × Held))
        → (IsIn new key (option_map cell_value (lookup (is_at (int_cmp key)) done)) → IsIn new key (option_map cell_value (lookup (is_at (int_cmp key)) (done ++ (k, v) ∷ []))))
        → (b : Bool) → IsIn new key (option_map cell_value (cond b (Some e.1) (lookup (is_at (int_cmp key)) done)))
        → IsIn new key (option_map cell_value (cond b (Some e.1) (lookup (is_at (int_cmp key)) (done ++ (k, v) ∷ []))))
    choice key e done rest true was = was
    choice key e done rest false was = rest was

    by : (key : ℤ) (done : List (ℤ × Held)) → IsIn new key (option_map cell_value (lookup (is_at (int_cmp key)) done))
        → IsIn new key (option_map cell_value (lookup (is_at (int_cmp key)) (done ++ (k, v) ∷ [])))
    by key [] was = last key (is_at (int_cmp key) k) refl
    by key (e ∷ done) was = choice key e done (by key done) (is_at (int_cmp key) e.0) was

-- ---- the indexes of a base

-- under the same cells
pub complete_same : (cells new : Cells) (indexes after : Vec Index) → after ≡ indexes → ((q : Cell) → new q ≡ cells q) → AreComplete cells indexes.items → AreComplete new after.items
complete_same cells new indexes after is same all =
    subst (λ cs. AreComplete cs after.items) (λ i q. sym (same q) i) (subst (λ (v : Vec Index). AreComplete cells v.items) (sym is) all)

-- with another value at one cell
pub complete_set : (b new : Base) (after : Vec Index) (cell : Cell) (change given : Option Held) (r : Option (Bor Held)) → given ≡ change
    → option_map (λ x. cell_value x.now) r ≡ option_map cell_value change
    → new.indexes ≡ b.indexes → ((q : Cell) → base_cells new q ≡ (if same_cell cell q then option_map cell_value given else base_cells b q))
    → (AreComplete (base_cells b) new.indexes.items → AreComplete (with_value (base_cells b) cell (option_map (λ x. cell_value x.now) r)) after.items)
    → AreComplete (base_cells b) b.indexes.items → AreComplete (base_cells new) after.items
complete_set b new after cell change given r is shown kept step renewed all =
    subst (λ cs. AreComplete cs after.items)
    (λ i q. (ap (λ v. if same_cell cell q then v else base_cells b q) (shown ∙ ap (option_map cell_value) (sym is)) ∙ sym (step q)) i)
    (renewed (subst (λ (v : Vec Index). AreComplete (base_cells b) v.items) (sym kept) all))

-- the same base, shared
pub complete_shared : (b new : Base) → new ≡ b → AreComplete (base_cells b) b.indexes.items → AreComplete (base_cells new) new.indexes.items
complete_shared b new is all = subst (λ (x : Base). AreComplete (base_cells x) x.indexes.items) (sym is) all

-- ---- an old place that leaves

key_of : (f : Name) (key : ℤ) (v : Option CellValue) (p : Place) → place_at f key v ≡ Some p → key_at p ≡ key
key_of f key (Some (row_value row)) p e =
    let same : place_of key (field_in row f) ≡ p = cc in
    ap key_at (sym same) ∙ key_of_place key (field_in row f)
key_of f key (Some (C.status_value s)) p e = cc
key_of f key (Some (C.knowledge_value k)) p e = cc
key_of f key None p e = cc

-- other objects stay in the index, and so does the new value of the object
pub still_in : (f : Name) (before after : BTreeSet Place) (key : ℤ) (old new : Option CellValue) (left place : Option Place) → left ≡ place_at f key old → place ≡ place_at f key new
    → ((p : Place) → contains place_cmp before p ≡ true → (left ≡ Some p → place ≡ Some p) → contains place_cmp after p ≡ true) → (k : ℤ) (v : Option CellValue)
    → MatchOption (place_at f k v) ⊤ (Stands before) → (k ≡ key → v ≡ new) → MatchOption (place_at f k v) ⊤ (Stands after)
still_in f before after key old new left place from to kept k v stands same = by (place_at f k v) refl stands
  where
    by : (o : Option Place) → place_at f k v ≡ o → MatchOption o ⊤ (Stands before) → MatchOption o ⊤ (Stands after)
    by None e s = tt
    by (Some p) e s = (
      kept p s.0 (λ leaves.
          let here : k ≡ key = sym (key_of f k v p e) ∙ key_of f key old p (sym from ∙ leaves) in
          to ∙ ap₂ (place_at f) (sym here) (sym (same here)) ∙ e),
      s.1,
    )
