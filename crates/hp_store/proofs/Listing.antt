-- Whether a list has the keys of the objects that are there.
use Rattle.std.proofs.Common.{◌≡◌, refl, ap, ap₂, sym, ◌∙◌, subst, ℕ, zero, suc, ◌<◌, ℤ, Bool, true, false, not, ◌&&◌, ◌||◌, cond, List, [], ◌∷◌, length, get_or, Option, Some}
use Rattle.std.proofs.Common.{None, is_some, int_eq, arith}
use Rattle.std.specs.Prelude.{◌==◌, IsTrue, if◌then◌else◌, option_map}
use Rattle.std.specs.Option.{option_or}
use Rattle.std.specs.declared.cmp.Ordering.TheVariants.{Less, Equal, Greater}
use Rattle.std.specs.Ordering.{is_eq, int_cmp, ordering_reverse}
use Rattle.std.specs.BTreeMap.{is_at}
use Rattle.std.specs.Map.{lookup}
use Rattle.std.specs.List.{list_all, list_any, AllWithin, HoldsAt}
use Rattle.std.specs.List.Sorted.{IsStrictlySortedBy, IsPartitionPoint}
use Rattle.std.proofs.lemmas.Bool.Decides.{Decides-eqb, Decides-int_eq}
use Rattle.std.proofs.lemmas.Cmp.{int_cmp_total}
use Rattle.std.proofs.lemmas.Map.Lookups.{exact_signed}
use Rattle.hp_model.specs.Cells as C
use Rattle.hp_model.specs.Cells.{object_cell, rule_cell, detector_cell, Cells, changed, over, same_cell, AreKeys}
use Rattle.hp_value.specs.declared.cell.Cell.{Cell}
use Rattle.hp_value.specs.declared.cell.Cell.TheVariants.{Object}
use Rattle.hp_value.specs.Mapped.{cell}
use Rattle.hp_store.specs.declared.value.CellValue.{CellValue}
use Rattle.hp_store.specs.Changes.{Entries, changes, changes_in, class_entries}
use Rattle.hp_store.specs.Listed.{is_listed, are_listed, all_listed}
use Rattle.hp_store.specs.Mapped.{cell_value}
use Rattle.hp_store.specs.Stack.{Stack, cells_in}
use Rattle.hp_store.specs.Tables.{entries_at, cells_at}
use Rattle.hp_store.proofs.Cells.{int_at}

-- ---- tests

and_left : (a b : Bool) → (a && b) ≡ true → a ≡ true
and_left true b h = refl
and_left false b h = h

and_right : (a b : Bool) → (a && b) ≡ true → b ≡ true
and_right true b h = h
and_right false b h = cc

or_first : (a b : Bool) → a ≡ true → (a || b) ≡ true
or_first a b h = ap (λ x. x || b) h

or_second : (a b : Bool) → b ≡ true → (a || b) ≡ true
or_second true b h = refl
or_second false b h = h

both_ways : (a b : Bool) → (a ≡ true → b ≡ true) → (b ≡ true → a ≡ true) → a ≡ b
both_ways true b to from = sym (to refl)
both_ways false true to from = from refl
both_ways false false to from = refl

either : (a : Bool) → (a || not a) ≡ true
either true = refl
either false = refl

-- ---- where a search ends

any_at : (key : ℤ) (xs : List ℤ) (i : ℕ) → i < length xs → HoldsAt (λ x. int_cmp x key ≡ Equal) xs i → list_any (int_eq key) xs ≡ true
any_at key [] i within hit = absurd (omega arith)
any_at key (x ∷ xs) zero within hit = or_first (int_eq key x) (list_any (int_eq key) xs) ((Decides-int_eq key x).1 (sym (exact_signed x key (hit x))))
any_at key (x ∷ xs) (suc i) within hit = or_second (int_eq key x) (list_any (int_eq key) xs) (any_at key xs i (omega arith) hit)

other : (key x : ℤ) → is_eq (ordering_reverse (int_cmp x key)) ≡ false → int_eq key x ≡ false
other key x apart = sym (int_at key x) ∙ ap is_eq (int_cmp_total.antisymm key x) ∙ apart

any_none : (p : ℤ → Bool) (xs : List ℤ) → AllWithin (λ x. p x ≡ false) xs 0 (length xs) → list_any p xs ≡ false
any_none p [] none = refl
any_none p (x ∷ xs) none = ap₂ (λ a b. a || b) (none 0 x (omega arith) (omega arith)) (any_none p xs (λ k d low high. none (suc k) d (omega arith) (omega arith)))

any_split : (p : ℤ → Bool) (xs : List ℤ) (i : ℕ) → AllWithin (λ x. p x ≡ false) xs 0 i → AllWithin (λ x. p x ≡ false) xs i (length xs) → list_any p xs ≡ false
any_split p [] i front back = refl
any_split p (x ∷ xs) zero front back = any_none p (x ∷ xs) back
any_split p (x ∷ xs) (suc i) front back =
    ap₂ (λ a b. a || b) (front 0 x (omega arith) (omega arith))
    (any_split p xs i (λ k d low high. front (suc k) d (omega arith) (omega arith)) (λ k d low high. back (suc k) d (omega arith) (omega arith)))

pub found_listed : (cells : Cells) (keys : List ℤ) (c : Cell) (class : ℕ) (key k : ℤ) (i : ℕ) → c ≡ Object class key → k ≡ key → i < length keys → HoldsAt (λ x. int_cmp x k ≡ Equal) keys i
    → true ≡ is_listed cells keys (cell c)
found_listed cells keys c class key k i is same within hit =
    sym (or_first (list_any (int_eq key) keys) (not (is_some (cells (object_cell class key)))) (any_at key keys i within (subst (λ j. HoldsAt (λ x. int_cmp x j ≡ Equal) keys i) same hit)))
    ∙ ap (λ d. is_listed cells keys (cell d)) (sym is)

pub missed_listed : (cells : Cells) (keys : List ℤ) (c : Cell) (class : ℕ) (key k : ℤ) (i : ℕ) → c ≡ Object class key → k ≡ key
    → IsPartitionPoint (λ x. int_cmp x k ≡ Less) (λ x. int_cmp x k ≡ Greater) keys i → not (is_some (cells (object_cell class key))) ≡ is_listed cells keys (cell c)
missed_listed cells keys c class key k i is same split =
    let parts = subst (λ j. IsPartitionPoint (λ x. int_cmp x j ≡ Less) (λ x. int_cmp x j ≡ Greater) keys i) same split in
    let none : list_any (int_eq key) keys ≡ false =
    any_split (int_eq key) keys i (λ n d low high. other key (get_or keys n d) (ap (λ r. is_eq (ordering_reverse r)) (parts.0 n d low high)))
    (λ n d low high. other key (get_or keys n d) (ap (λ r. is_eq (ordering_reverse r)) (parts.1 n d low high))) in
    ap (λ b. b || not (is_some (cells (object_cell class key)))) (sym none) ∙ ap (λ d. is_listed cells keys (cell d)) (sym is)

-- ---- an object that is there is named by the base, a layer or the writes

-- the entry at a cell, or a later one
entry_listed : (cells : Cells) (keys : List ℤ) (class of : ℕ) (k key : ℤ) (x : Option C.CellValue) (es : Entries) (same in_class : Bool)
    → same_cell (object_cell of k) (object_cell class key) ≡ same → (class == of) ≡ in_class
    → (are_listed cells keys (class_entries class es) ≡ true → is_some (changes es (object_cell class key)) ≡ true → is_listed cells keys (object_cell class key) ≡ true)
    → are_listed cells keys (cond in_class ((object_cell of k, x) ∷ class_entries class es) (class_entries class es)) ≡ true
    → is_some (if same then Some x else changes es (object_cell class key)) ≡ true → is_listed cells keys (object_cell class key) ≡ true
entry_listed cells keys class of k key x es true true e f later listed named =
    let classes : of ≡ class = (Decides-eqb of class).0 (and_left (of == class) (int_eq k key) e) in
    let one : k ≡ key = (Decides-int_eq k key).0 (and_right (of == class) (int_eq k key) e) in
    subst (λ q. is_listed cells keys q ≡ true) (ap₂ object_cell classes one) (and_left (is_listed cells keys (object_cell of k)) (are_listed cells keys (class_entries class es)) listed)
entry_listed cells keys class of k key x es true false e f later listed named =
    let classes : of ≡ class = (Decides-eqb of class).0 (and_left (of == class) (int_eq k key) e) in
    absurd (cc (sym f ∙ (Decides-eqb class of).1 (sym classes)))
entry_listed cells keys class of k key x es false true e f later listed named =
    later (and_right (is_listed cells keys (object_cell of k)) (are_listed cells keys (class_entries class es)) listed) named
entry_listed cells keys class of k key x es false false e f later listed named = later listed named

layer_listed : (cells : Cells) (keys : List ℤ) (class : ℕ) (key : ℤ) (es : Entries) → are_listed cells keys (class_entries class es) ≡ true → is_some (changes es (object_cell class key)) ≡ true
    → is_listed cells keys (object_cell class key) ≡ true
layer_listed cells keys class key [] listed named = cc
layer_listed cells keys class key ((object_cell of k, x) ∷ es) listed named =
    entry_listed cells keys class of k key x es (same_cell (object_cell of k) (object_cell class key)) (class == of) refl refl (layer_listed cells keys class key es) listed named
layer_listed cells keys class key ((rule_cell n, x) ∷ es) listed named = layer_listed cells keys class key es listed named
layer_listed cells keys class key ((detector_cell n, x) ∷ es) listed named = layer_listed cells keys class key es listed named

either_named : (a b : Option (Option C.CellValue)) (P : Type 0) → (is_some a ≡ true → P) → (is_some b ≡ true → P) → is_some (option_or a b) ≡ true → P
either_named None b P left right named = right named
either_named (Some x) b P left right named = left refl

layers_listed : (cells : Cells) (keys : List ℤ) (class : ℕ) (key : ℤ) (layers : List Entries) → list_all (λ layer. are_listed cells keys (class_entries class layer)) layers ≡ true
    → is_some (changes_in layers (object_cell class key)) ≡ true → is_listed cells keys (object_cell class key) ≡ true
layers_listed cells keys class key [] listed named = cc
layers_listed cells keys class key (l ∷ layers) listed named =
    let q = object_cell class key in
    let here = are_listed cells keys (class_entries class l) in
    let rest = list_all (λ layer. are_listed cells keys (class_entries class layer)) layers in
    either_named (changes_in layers q) (changes l q) (is_listed cells keys q ≡ true) (layers_listed cells keys class key layers (and_right here rest listed))
    (layer_listed cells keys class key l (and_left here rest listed)) named

row_listed : (cells : Cells) (keys : List ℤ) (class : ℕ) (key k : ℤ) (v : CellValue) (es : List (ℤ × CellValue)) (same : Bool) → is_at (int_cmp key) k ≡ same
    → is_listed cells keys (object_cell class k) ≡ true
    → (is_some (option_map cell_value (lookup (is_at (int_cmp key)) es)) ≡ true → is_listed cells keys (object_cell class key) ≡ true)
    → is_some (option_map cell_value (cond same (Some v) (lookup (is_at (int_cmp key)) es))) ≡ true → is_listed cells keys (object_cell class key) ≡ true
row_listed cells keys class key k v es true e here later found = subst (λ j. is_listed cells keys (object_cell class j) ≡ true) (sym ((Decides-int_eq key k).0 (sym (int_at key k) ∙ e))) here
row_listed cells keys class key k v es false e here later found = later found

table_listed : (cells : Cells) (keys : List ℤ) (class : ℕ) (key : ℤ) (es : List (ℤ × CellValue)) → list_all (λ e. is_listed cells keys (object_cell class e.0)) es ≡ true
    → is_some (option_map cell_value (lookup (is_at (int_cmp key)) es)) ≡ true → is_listed cells keys (object_cell class key) ≡ true
table_listed cells keys class key [] listed found = cc
table_listed cells keys class key (e ∷ es) listed found =
    let here = is_listed cells keys (object_cell class e.0) in
    let rest = list_all (λ d. is_listed cells keys (object_cell class d.0)) es in
    row_listed cells keys class key e.0 e.1 es (is_at (int_cmp key) e.0) refl (and_left here rest listed) (table_listed cells keys class key es (and_right here rest listed)) found

named_somewhere : (P : Type 0) (b : Option C.CellValue) (l w : Option (Option C.CellValue)) → (is_some b ≡ true → P) → (is_some l ≡ true → P) → (is_some w ≡ true → P)
    → is_some (changed (changed b l) w) ≡ true → P
named_somewhere P b None None base layers writes there = base there
named_somewhere P b (Some x) None base layers writes there = layers refl
named_somewhere P b l (Some x) base layers writes there = writes refl

there_listed : (cells : Cells) (keys : List ℤ) (class : ℕ) (key : ℤ) → is_listed cells keys (object_cell class key) ≡ true → is_some (cells (object_cell class key)) ≡ true
    → list_any (int_eq key) keys ≡ true
there_listed cells keys class key listed there = by (list_any (int_eq key) keys) (listed_there there listed)
  where
    by : (a : Bool) → (a || not true) ≡ true → a ≡ true
    by true h = refl
    by false h = h

    listed_there : is_some (cells (object_cell class key)) ≡ true → is_listed cells keys (object_cell class key) ≡ true → (list_any (int_eq key) keys || not true) ≡ true
    listed_there e h = ap (λ b. list_any (int_eq key) keys || not b) (sym e) ∙ h

-- ---- the keys of a class

any_step : (p : ℤ → Bool) (key x : ℤ) (xs : List ℤ) (b : Bool) → int_eq key x ≡ b → p x ≡ true → (list_any (int_eq key) xs ≡ true → p key ≡ true)
    → (b || list_any (int_eq key) xs) ≡ true → p key ≡ true
any_step p key x xs true e here later h = ap p ((Decides-int_eq key x).0 e) ∙ here
any_step p key x xs false e here later h = later h

all_any : (p : ℤ → Bool) (key : ℤ) (xs : List ℤ) → list_all p xs ≡ true → list_any (int_eq key) xs ≡ true → p key ≡ true
all_any p key [] all any = cc
all_any p key (x ∷ xs) all any = any_step p key x xs (int_eq key x) refl (and_left (p x) (list_all p xs) all) (all_any p key xs (and_right (p x) (list_all p xs) all)) any

any_all : (p : ℤ → Bool) (xs : List ℤ) → ((x : ℤ) → list_any (int_eq x) xs ≡ true → p x ≡ true) → list_all p xs ≡ true
any_all p [] each = refl
any_all p (x ∷ xs) each =
    ap₂ (λ a b. a && b) (each x (or_first (int_eq x x) (list_any (int_eq x) xs) ((Decides-int_eq x x).1 refl))) (any_all p xs (λ y h. each y (or_second (int_eq y x) (list_any (int_eq y) xs) h)))

key_listed : (cells : Cells) (class : ℕ) (keys : List ℤ) → AreKeys cells class keys → (key : ℤ) → is_listed cells keys (object_cell class key) ≡ true
key_listed cells class keys are key = ap (λ b. list_any (int_eq key) keys || not b) (sym (are.has key)) ∙ either (list_any (int_eq key) keys)

class_step : (cells : Cells) (class : ℕ) (keys : List ℤ) → AreKeys cells class keys → (of : ℕ) (k : ℤ) (x : Option C.CellValue) (es : Entries) (b : Bool) → (class == of) ≡ b
    → are_listed cells keys es ≡ true → are_listed cells keys (cond b ((object_cell of k, x) ∷ es) es) ≡ true
class_step cells class keys are of k x es true e later =
    ap₂ (λ a b. a && b) (subst (λ n. is_listed cells keys (object_cell n k) ≡ true) ((Decides-eqb class of).0 e) (key_listed cells class keys are k)) later
class_step cells class keys are of k x es false e later = later

class_listed : (cells : Cells) (class : ℕ) (keys : List ℤ) → AreKeys cells class keys → (es : Entries) → are_listed cells keys (class_entries class es) ≡ true
class_listed cells class keys are [] = refl
class_listed cells class keys are ((object_cell of k, x) ∷ es) = class_step cells class keys are of k x (class_entries class es) (class == of) refl (class_listed cells class keys are es)
class_listed cells class keys are ((rule_cell n, x) ∷ es) = class_listed cells class keys are es
class_listed cells class keys are ((detector_cell n, x) ∷ es) = class_listed cells class keys are es

each_class_listed : (cells : Cells) (class : ℕ) (keys : List ℤ) → AreKeys cells class keys → (layers : List Entries)
    → list_all (λ layer. are_listed cells keys (class_entries class layer)) layers ≡ true
each_class_listed cells class keys are [] = refl
each_class_listed cells class keys are (l ∷ layers) = ap₂ (λ a b. a && b) (class_listed cells class keys are l) (each_class_listed cells class keys are layers)

rows_listed : (cells : Cells) (class : ℕ) (keys : List ℤ) → AreKeys cells class keys → (es : List (ℤ × CellValue)) → list_all (λ e. is_listed cells keys (object_cell class e.0)) es ≡ true
rows_listed cells class keys are [] = refl
rows_listed cells class keys are (e ∷ es) = ap₂ (λ a b. a && b) (key_listed cells class keys are e.0) (rows_listed cells class keys are es)

module _ (s : Stack) (writes : Entries) (class : ℕ) (keys : List ℤ) where
  abbrev Now : Cells
  Now = over (cells_in s) (changes writes)

  are_keys : IsStrictlySortedBy int_cmp keys → list_all (λ key. is_some (Now (object_cell class key))) keys ≡ true → all_listed s writes keys class ≡ true → AreKeys Now class keys
  are_keys rise each all = record {
    rise = rise;
    has = λ key. both_ways (list_any (int_eq key) keys) (is_some (Now (object_cell class key))) (all_any (λ k. is_some (Now (object_cell class k))) key keys each)
        (λ there. there_listed Now keys class key (listed key there) there);
  }
    where
      base : Bool
      base = list_all (λ e. is_listed Now keys (object_cell class e.0)) (entries_at s.base.classes class)

      layers : Bool
      layers = list_all (λ layer. are_listed Now keys (class_entries class layer)) s.layers

      listed : (key : ℤ) → is_some (Now (object_cell class key)) ≡ true → is_listed Now keys (object_cell class key) ≡ true
      listed key there =
          named_somewhere (is_listed Now keys (object_cell class key) ≡ true) (cells_at s.base (object_cell class key)) (changes_in s.layers (object_cell class key))
          (changes writes (object_cell class key))
          (table_listed Now keys class key (entries_at s.base.classes class) (and_left base (layers && are_listed Now keys (class_entries class writes)) all))
          (layers_listed Now keys class key s.layers (and_left layers (are_listed Now keys (class_entries class writes))
          (and_right base (layers && are_listed Now keys (class_entries class writes)) all)))
          (layer_listed Now keys class key writes (and_right layers (are_listed Now keys (class_entries class writes))
          (and_right base (layers && are_listed Now keys (class_entries class writes)) all)))
          there

  -- the answers of the parts
  pub told : (b : Bool) → IsStrictlySortedBy int_cmp keys → true ≡ list_all (λ key. is_some (Now (object_cell class key))) keys → b ≡ all_listed s writes keys class
      → (IsTrue b → AreKeys Now class keys) × (AreKeys Now class keys → IsTrue b)
  told b rise each all = (
    λ t. are_keys rise (sym each) (sym all ∙ t),
    λ are. all ∙ ap₂ (λ x y. x && y) (rows_listed Now class keys are (entries_at s.base.classes class))
        (ap₂ (λ x y. x && y) (each_class_listed Now class keys are s.layers) (class_listed Now class keys are writes)),
  )

  pub told_missing : (b : Bool) → b ≡ false → b ≡ list_all (λ key. is_some (Now (object_cell class key))) keys → (IsTrue b → AreKeys Now class keys) × (AreKeys Now class keys → IsTrue b)
  told_missing b fails each =
      (λ t. absurd (cc (sym t ∙ fails)), λ are. each ∙ any_all (λ key. is_some (Now (object_cell class key))) keys (λ key h. sym (are.has key) ∙ h))
