-- A base's cells.
use Rattle.std.proofs.Common.{◌≡◌, refl, ap, sym, ◌∙◌, subst, ℕ, zero, suc, ℤ, ◌<◌, ◌≤◌, Bool, true, false, ◌&&◌, cond, List, [], ◌∷◌, ◌++◌, length, get_or, set, Option, Some}
use Rattle.std.proofs.Common.{None, Result, Ok, Err, OnErr, is_some, int_eq, Bor, arith}
use Rattle.std.specs.Prelude.{◌==◌, option_map, if◌then◌else◌}
use Rattle.std.specs.Option.{option_copied}
use Rattle.std.specs.Ordering.{nat_cmp, int_cmp}
use Rattle.std.specs.BTreeMap.{BTreeMap, is_at, get}
use Rattle.std.specs.Map.{lookup, keys_of}
use Rattle.std.specs.List.{list_any}
use Rattle.std.specs.List.Sorted.{IsStrictlySortedBy}
use Rattle.std.proofs.Math.Dec.{eqb-zero-suc, eqb-suc-zero, eqb-suc-suc}
use Rattle.std.proofs.lemmas.Bool.Decides.{Decides-eqb}
use Rattle.std.proofs.lemmas.Map.Made.{is_some-lookup}
use Rattle.hp_model.specs.Cells as C
use Rattle.hp_model.specs.Cells.{Cells, AreKeys, changed, over, same_cell}
use Rattle.hp_value.specs.declared.cell.Cell.{Cell}
use Rattle.hp_value.specs.declared.cell.Cell.TheVariants.{Object}
use Rattle.hp_value.specs.Mapped.{cell}
use Rattle.hp_store.specs.declared.value.CellValue.{CellValue}
use Rattle.hp_store.specs.declared.base.Base.{Base}
use Rattle.hp_store.specs.Mapped.{cell_value, change}
use Rattle.hp_store.specs.Tables.{table_at, base_cells}
use Rattle.hp_store.proofs.Cells.{int_at}

abbrev pub Table : Type 0
Table = BTreeMap ℤ CellValue

-- ---- the keys of a table

some_mapped : (o : Option CellValue) → is_some o ≡ is_some (option_map cell_value o)
some_mapped None = refl
some_mapped (Some v) = refl

has_keys : (key : ℤ) (es : List (ℤ × CellValue)) → list_any (int_eq key) (keys_of es) ≡ is_some (option_map cell_value (lookup (is_at (int_cmp key)) es))
has_keys key es =
    ap (λ (test : ℤ → Bool). list_any test (keys_of es)) (λ i k. sym (int_at key k) i)
    ∙ sym (is_some-lookup (is_at (int_cmp key)) es) ∙ some_mapped (lookup (is_at (int_cmp key)) es)

pub table_keys : (b : Base) (class : ℕ) (es : List (ℤ × CellValue)) (ks : List ℤ) → table_at b.classes.items class ≡ es → IsStrictlySortedBy int_cmp (keys_of es) → ks ≡ keys_of es
    → AreKeys (base_cells b) class ks
table_keys b class es ks is rise all = record {
  rise = subst (IsStrictlySortedBy int_cmp) (sym all) rise;
  has = λ key. ap (list_any (int_eq key)) all ∙ has_keys key es ∙ ap (λ l. is_some (option_map cell_value (lookup (is_at (int_cmp key)) l))) (sym is);
}

-- ---- the table at a place

pub table_is : (ts : List Table) (i : ℕ) (t : Table) → i < length ts → t ≡ get_or ts i t → table_at ts i ≡ t.entries
table_is [] i t within is = absurd (omega arith)
table_is (u ∷ ts) zero t within is = ap (λ (x : Table). x.entries) (sym is)
table_is (u ∷ ts) (suc i) t within is = table_is ts i t (omega arith) is

pub table_past : (ts : List Table) (i : ℕ) → length ts ≤ i → table_at ts i ≡ []
table_past [] i past = refl
table_past (u ∷ ts) zero past = absurd (omega arith)
table_past (u ∷ ts) (suc i) past = table_past ts i (omega arith)

pub table_set : (ts : List Table) (i j : ℕ) (t : Table) → i < length ts → table_at (set ts i t) j ≡ (if i == j then t.entries else table_at ts j)
table_set [] i j t within = absurd (omega arith)
table_set (u ∷ ts) zero zero t within = refl
table_set (u ∷ ts) zero (suc j) t within = ap (λ b. cond b t.entries (table_at ts j)) (sym (eqb-zero-suc j))
table_set (u ∷ ts) (suc i) zero t within = ap (λ b. cond b t.entries u.entries) (sym (eqb-suc-zero i))
table_set (u ∷ ts) (suc i) (suc j) t within = table_set ts i j t (omega arith) ∙ ap (λ b. cond b t.entries (table_at ts j)) (sym (eqb-suc-suc i j))

-- an empty table at the end
pub table_push : (ts : List Table) (t : Table) (i : ℕ) → t.entries ≡ [] → table_at (ts ++ t ∷ []) i ≡ table_at ts i
table_push [] t zero none = none
table_push [] t (suc i) none = refl
table_push (u ∷ ts) t zero none = refl
table_push (u ∷ ts) t (suc i) none = table_push ts t i none

-- ---- one object

pub found_value : (r : Option (Bor CellValue)) → option_map (λ v. cell_value v.now) r ≡ option_map cell_value (option_copied r)
found_value None = refl
found_value (Some v) = refl

pub object_found : (b : Base) (class : ℕ) (key k : ℤ) (ts : List Table) (t : Table) (r : Option (Bor CellValue)) → ts ≡ b.classes.items → class < length ts → t ≡ get_or ts class t → k ≡ key
    → option_copied r ≡ lookup (is_at (int_cmp k)) t.entries → option_map (λ v. cell_value v.now) r ≡ base_cells b (C.object_cell class key)
object_found b class key k ts t r all within is same found =
    found_value r ∙ ap (option_map cell_value) (found ∙ (λ i. lookup (is_at (int_cmp (same i))) (sym (table_is ts class t within is) i)))
    ∙ ap (λ l. option_map cell_value (lookup (is_at (int_cmp key)) (table_at l class))) all

pub object_missing : (b : Base) (class : ℕ) (key : ℤ) (ts : List Table) → ts ≡ b.classes.items → length ts ≤ class → None ≡ base_cells b (C.object_cell class key)
object_missing b class key ts all past =
    ap (λ l. option_map cell_value (lookup (is_at (int_cmp key)) l)) (sym (table_past ts class past)) ∙ ap (λ l. option_map cell_value (lookup (is_at (int_cmp key)) (table_at l class))) all

mapped_choice : (b : Bool) (w o : Option CellValue) → option_map cell_value (cond b w o) ≡ (if b then change w else option_map cell_value o)
mapped_choice true w o = refl
mapped_choice false w o = refl

-- the object's table is at its class, and n is in its place
pub record Placed (b : Base) (ts : List Table) (class : ℕ) (t : Table) : Type 0 where
  pub same : (i : ℕ) → table_at ts i ≡ table_at b.classes.items i
  pub within : class < length ts
  pub is : t ≡ get_or ts class t

pub here : (b : Base) (ts : List Table) (class : ℕ) (t : Table) → Placed b ts class t → (d : ℕ) → (class == d) ≡ true → t.entries ≡ table_at b.classes.items d
here b ts class t placed d e = sym (table_is ts class t placed.within placed.is) ∙ placed.same class ∙ ap (table_at b.classes.items) ((Decides-eqb class d).0 e)

-- one object with a new value, or without one
pub object_set : (b n : Base) (ts : List Table) (c : Cell) (class : ℕ) (key k : ℤ) (t u : Table) (w : Option CellValue) → Placed b ts class t → n.statuses ≡ b.statuses → n.detectors ≡ b.detectors
    → n.classes.items ≡ set ts class u → c ≡ Object class key → k ≡ key → ((q : ℤ) → get int_cmp u q ≡ cond (is_at (int_cmp k) q) w (get int_cmp t q))
    → (q : C.Cell) → base_cells n q ≡ (if same_cell (cell c) q then change w else base_cells b q)
object_set b n ts c class key k t u w placed statuses detectors classes is same step q = at q ∙ ap (λ d. if same_cell (cell d) q then change w else base_cells b q) (sym is)
  where
    found : (d : ℕ) (l : ℤ) (s : Bool) → (class == d) ≡ s
        → option_map cell_value (lookup (is_at (int_cmp l)) (if s then u.entries else table_at ts d)) ≡ (if s && int_eq key l then change w else base_cells b (C.object_cell d l))
    found d l true e =
        ap (option_map cell_value) (step l) ∙ mapped_choice (is_at (int_cmp k) l) w (get int_cmp t l)
        ∙ (λ i. if (ap (λ j. is_at (int_cmp j) l) same ∙ int_at key l) i then change w else option_map cell_value (lookup (is_at (int_cmp l)) (here b ts class t placed d e i)))
    found d l false e = ap (λ es. option_map cell_value (lookup (is_at (int_cmp l)) es)) (placed.same d)

    at : (q : C.Cell) → base_cells n q ≡ (if same_cell (C.object_cell class key) q then change w else base_cells b q)
    at (C.object_cell d l) =
        ap (λ ms. option_map cell_value (lookup (is_at (int_cmp l)) (table_at ms d))) classes
        ∙ ap (λ es. option_map cell_value (lookup (is_at (int_cmp l)) es)) (table_set ts class d u placed.within) ∙ found d l (class == d) refl
    at (C.rule_cell m) = ap (λ (s : BTreeMap ℕ CellValue). option_map cell_value (lookup (is_at (nat_cmp m)) s.entries)) statuses
    at (C.detector_cell m) = ap (λ (s : BTreeMap ℕ CellValue). option_map cell_value (lookup (is_at (nat_cmp m)) s.entries)) detectors

-- a table as it was
pub object_same : (b n : Base) (ts : List Table) (class : ℕ) (t u : Table) → Placed b ts class t → n.statuses ≡ b.statuses → n.detectors ≡ b.detectors
    → n.classes.items ≡ set ts class u → u.entries ≡ t.entries → (q : C.Cell) → base_cells n q ≡ base_cells b q
object_same b n ts class t u placed statuses detectors classes unchanged = at
  where
    found : (d : ℕ) (l : ℤ) (s : Bool) → (class == d) ≡ s → option_map cell_value (lookup (is_at (int_cmp l)) (if s then u.entries else table_at ts d)) ≡ base_cells b (C.object_cell d l)
    found d l true e = ap (λ es. option_map cell_value (lookup (is_at (int_cmp l)) es)) (unchanged ∙ here b ts class t placed d e)
    found d l false e = ap (λ es. option_map cell_value (lookup (is_at (int_cmp l)) es)) (placed.same d)

    at : (q : C.Cell) → base_cells n q ≡ base_cells b q
    at (C.object_cell d l) =
        ap (λ ms. option_map cell_value (lookup (is_at (int_cmp l)) (table_at ms d))) classes
        ∙ ap (λ es. option_map cell_value (lookup (is_at (int_cmp l)) es)) (table_set ts class d u placed.within) ∙ found d l (class == d) refl
    at (C.rule_cell m) = ap (λ (s : BTreeMap ℕ CellValue). option_map cell_value (lookup (is_at (nat_cmp m)) s.entries)) statuses
    at (C.detector_cell m) = ap (λ (s : BTreeMap ℕ CellValue). option_map cell_value (lookup (is_at (nat_cmp m)) s.entries)) detectors

-- ---- no keys

pub no_keys_rise : IsStrictlySortedBy int_cmp []
unfolding IsStrictlySortedBy
no_keys_rise = tt

-- a fact under either outcome
pub on_err : {A E : Type 0} (r : Result A E) (P : Type 0) → P → OnErr r P
on_err (Ok x) P holds = tt
on_err (Err e) P holds = holds
