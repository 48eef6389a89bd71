-- Cells that agree on a class: they are the same at each of its objects.
use Rattle.std.proofs.Common.{◌≡◌, refl, sym, ◌∙◌, subst, ℤ, ℕ, Bool, true, false, ◌||◌, List, [], ◌∷◌, Option, Some, None, is_some, int_eq}
use Rattle.std.specs.Prelude.{All}
use Rattle.std.specs.List.{list_any}
use Rattle.std.proofs.lemmas.Bool.Decides.{Decides-int_eq}
use Rattle.std.proofs.lemmas.List.Elements.{All-nil, All-cons, All-head, All-tail}
use Rattle.hp_model.specs.Values.{KeyedRow}
use Rattle.hp_model.specs.Cells.{CellValue, Cells, object_cell, AreKeys, AreObjects}
use Rattle.hp_value.specs.Mapped.{keys_of}

-- what is so of all keys is so of one among them
all_at : (P : ℤ → Type 0) (keys : List ℤ) → All P keys → (key : ℤ) → list_any (int_eq key) keys ≡ true → P key
all_at P [] all key among = cc
all_at P (k ∷ ks) all key among = by (int_eq key k) refl among (all_at P ks (All-tail P k ks all) key)
  where
    by : (b : Bool) → int_eq key k ≡ b → (b || list_any (int_eq key) ks) ≡ true → (list_any (int_eq key) ks ≡ true → P key) → P key
    by true is among rest = subst P (sym ((Decides-int_eq key k).0 is)) (All-head P k ks all)
    by false is among rest = rest among

pub both_none : (x y : Option CellValue) → is_some x ≡ false → is_some y ≡ false → x ≡ y
both_none None None p q = refl
both_none None (Some y) p q = cc
both_none (Some x) y p q = cc

-- cells with the same keys in a class, and the same cells at these keys, are the same at each of the class's cells
pub same_class : {A B : Cells} {class : ℕ} {keys : List ℤ} → AreKeys A class keys → AreKeys B class keys → All (λ key. A (object_cell class key) ≡ B (object_cell class key)) keys
    → (key : ℤ) → A (object_cell class key) ≡ B (object_cell class key)
same_class {A} {B} {class} {keys} p q same key = by (list_any (int_eq key) keys) refl
  where
    by : (b : Bool) → list_any (int_eq key) keys ≡ b → A (object_cell class key) ≡ B (object_cell class key)
    by true among = all_at (λ k. A (object_cell class k) ≡ B (object_cell class k)) keys same key among
    by false among = both_none (A (object_cell class key)) (B (object_cell class key)) (sym (p.has key) ∙ among) (sym (q.has key) ∙ among)

to_keys : (P : ℤ → Type 0) (objects : List KeyedRow) → All (λ (o : KeyedRow). P o.key) objects → All P (keys_of objects)
to_keys P [] all = All-nil P
to_keys P (o ∷ os) all = All-cons P o.key (keys_of os) (All-head (λ (r : KeyedRow). P r.key) o os all) (to_keys P os (All-tail (λ (r : KeyedRow). P r.key) o os all))

-- the same of cells with the same objects
pub same_objects : {A B : Cells} {class : ℕ} {objects : List KeyedRow} → AreObjects A class objects → AreObjects B class objects → (key : ℤ) → A (object_cell class key) ≡ B (object_cell class key)
same_objects {A} {B} {class} {objects} p q =
    same_class p.keys q.keys (to_keys (λ key. A (object_cell class key) ≡ B (object_cell class key)) objects (λ i d below. p.rows i d below ∙ sym (q.rows i d below)))
