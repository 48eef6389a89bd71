-- Distinct cells, layers over layers, and reads that hold.
use Rattle.std.proofs.Common.{◌≡◌, refl, ap, ap₂, ◌∙◌, subst, ℕ, ℤ, Bool, true, false, ◌&&◌, List, [], ◌∷◌, ◌++◌, Option, Some, None, int_eq}
use Rattle.std.specs.Prelude.{◌==◌, if◌then◌else◌}
use Rattle.std.specs.Cmp.{Equal-is}
use Rattle.std.specs.Option.{option_or}
use Rattle.std.specs.declared.cmp.Ordering.{Ordering}
use Rattle.std.specs.declared.cmp.Ordering.TheVariants.{Less, Equal, Greater}
use Rattle.std.specs.Ordering.{is_eq, nat_cmp, ordering_then}
use Rattle.std.specs.BTreeMap.{is_at}
use Rattle.std.proofs.lemmas.Bool.{and_parts}
use Rattle.std.proofs.lemmas.Bool.Decides.{same_from_decides, Decides-eqb, Decides-int_eq}
use Rattle.std.proofs.lemmas.Cmp.{nat_eq_equiv, int_eq_equiv, nat_cmp_total, tied_itself}
use Rattle.std.proofs.lemmas.Map.Lookups.{exact_unsigned}
use Rattle.hp_model.specs.State.{ObjectName, compare_names, object_name}
use Rattle.hp_model.specs.Cells.{Cell, object_cell, rule_cell, detector_cell, CellValue, Cells, Changes, changed, over, same_cell, with_change, Read, ReadHolds, ReadsHold, Holds}

-- ---- which cells are the same

-- the test decides
pub exact_cell : (a b : Cell) → same_cell a b ≡ true → a ≡ b
exact_cell (object_cell c k) (object_cell d l) h =
    let both = and_parts (c == d) (int_eq k l) h in
    ap₂ object_cell ((Decides-eqb c d).0 both.0) ((Decides-int_eq k l).0 both.1)
exact_cell (rule_cell m) (rule_cell n) h = ap rule_cell ((Decides-eqb m n).0 h)
exact_cell (detector_cell m) (detector_cell n) h = ap detector_cell ((Decides-eqb m n).0 h)
exact_cell (object_cell c k) (rule_cell n) h = cc
exact_cell (object_cell c k) (detector_cell n) h = cc
exact_cell (rule_cell m) (object_cell d l) h = cc
exact_cell (rule_cell m) (detector_cell n) h = cc
exact_cell (detector_cell m) (object_cell d l) h = cc
exact_cell (detector_cell m) (rule_cell n) h = cc

-- a cell is the same as itself
pub same_self : (a : Cell) → same_cell a a ≡ true
same_self (object_cell c k) = ap₂ (λ x y. x && y) (nat_eq_equiv.refl c) (int_eq_equiv.refl k)
same_self (rule_cell n) = nat_eq_equiv.refl n
same_self (detector_cell n) = nat_eq_equiv.refl n

-- the test is symmetric
pub same_turn : (a b : Cell) → same_cell a b ≡ same_cell b a
same_turn (object_cell c k) (object_cell d l) = ap₂ (λ x y. x && y) (nat_eq_equiv.symm c d) (int_eq_equiv.symm k l)
same_turn (rule_cell m) (rule_cell n) = nat_eq_equiv.symm m n
same_turn (detector_cell m) (detector_cell n) = nat_eq_equiv.symm m n
same_turn (object_cell c k) (rule_cell n) = refl
same_turn (object_cell c k) (detector_cell n) = refl
same_turn (rule_cell m) (object_cell d l) = refl
same_turn (rule_cell m) (detector_cell n) = refl
same_turn (detector_cell m) (object_cell d l) = refl
same_turn (detector_cell m) (rule_cell n) = refl

-- ---- names

nat_at : (a b : ℕ) → is_eq (nat_cmp a b) ≡ (a == b)
nat_at a b =
    same_from_decides (is_eq (nat_cmp a b)) (a == b)
    (λ h. exact_unsigned a b ((Equal-is (nat_cmp a b)).0 h), λ e. subst (λ c. is_eq (nat_cmp a c) ≡ true) e (ap is_eq (tied_itself nat_cmp_total a)))
    (Decides-eqb a b)

then_both : (r s : Ordering) → is_eq (ordering_then r s) ≡ (is_eq r && is_eq s)
then_both Less s = refl
then_both Equal s = refl
then_both Greater s = refl

-- a name is found at a class and a key exactly if the cells are equal
pub name_at : (class : ℕ) (key : ℤ) (name : ObjectName) → is_at (compare_names (object_name class key)) name ≡ same_cell (object_cell class key) (object_cell name.class name.key)
name_at class key name =
    then_both (nat_cmp class name.class) _ ∙ ap (λ b. b && int_eq key name.key) (nat_at class name.class)

-- ---- layers

-- a layer over another as one layer
abbrev pub stacked : (below above : Changes) → Changes
stacked below above cell = option_or (above cell) (below cell)

changed_twice : (o : Option CellValue) (x y : Option (Option CellValue)) → changed (changed o x) y ≡ changed o (option_or y x)
changed_twice o x None = refl
changed_twice o x (Some v) = refl

-- two layers, one after another, are their stack
pub over-over : (base : Cells) (below above : Changes) → over (over base below) above ≡ over base (stacked below above)
over-over base below above i cell = changed_twice (base cell) (below cell) (above cell) i

choice_stacked : (b : Bool) (v : Option CellValue) (x y : Option (Option CellValue)) → option_or (if b then Some v else y) x ≡ (if b then Some v else option_or y x)
choice_stacked true v x y = refl
choice_stacked false v x y = refl

-- one more change of the upper layer is one of the stack
pub stacked-with_change : (below above : Changes) (cell : Cell) (v : Option CellValue) → stacked below (with_change above cell (Some v)) ≡ with_change (stacked below above) cell (Some v)
stacked-with_change below above cell v i q = choice_stacked (same_cell cell q) v (below q) (above q) i

changed_choice : (b : Bool) (o v : Option CellValue) (w : Option (Option CellValue)) → changed (changed o w) (if b then Some v else None) ≡ changed o (if b then Some v else w)
changed_choice true o v w = refl
changed_choice false o v w = refl

-- one more change of a layer, at a cell
pub over-with_change : (base : Cells) (layer : Changes) (cell : Cell) (v : Option CellValue) (q : Cell)
    → changed (over base layer q) (if same_cell cell q then Some v else None) ≡ over base (with_change layer cell (Some v)) q
over-with_change base layer cell v q = changed_choice (same_cell cell q) (base q) v (layer q)

-- the changed cell, and every other
pub with_change-here : (layer : Changes) (cell : Cell) (x : Option (Option CellValue)) → with_change layer cell x cell ≡ x
with_change-here layer cell x = ap (λ b. if b then x else layer cell) (same_self cell)

pub with_change-apart : (layer : Changes) (cell : Cell) (x : Option (Option CellValue)) (q : Cell) → same_cell cell q ≡ false → with_change layer cell x q ≡ layer q
with_change-apart layer cell x q apart = ap (λ b. if b then x else layer q) apart

-- a change to the present value
pub with_change-same : (layer : Changes) (cell : Cell) → with_change layer cell (layer cell) ≡ layer
with_change-same layer cell i q = by (same_cell cell q) refl i
  where
    by : (b : Bool) → same_cell cell q ≡ b → (if b then layer cell else layer q) ≡ layer q
    by true same = ap layer (exact_cell cell q same)
    by false apart = refl

-- a cell that is changed again
pub with_change-again : (layer : Changes) (cell : Cell) (x y : Option (Option CellValue)) → with_change (with_change layer cell x) cell y ≡ with_change layer cell y
with_change-again layer cell x y i q = by (same_cell cell q) i
  where
    by : (b : Bool) → (if b then y else (if b then x else layer q)) ≡ (if b then y else layer q)
    by true = refl
    by false = refl

-- a change that is changed back
pub with_change-back : (layer : Changes) (cell : Cell) (x : Option (Option CellValue)) → with_change (with_change layer cell x) cell (layer cell) ≡ layer
with_change-back layer cell x = with_change-again layer cell x (layer cell) ∙ with_change-same layer cell

-- ---- reads

ReadsHold-front : (base : Cells) (xs ys : List Read) → ReadsHold base (xs ++ ys) → ReadsHold base xs
ReadsHold-front base [] ys told = tt
ReadsHold-front base (x ∷ xs) ys told = (told.0, ReadsHold-front base xs ys told.1)

ReadsHold-back : (base : Cells) (xs ys : List Read) → ReadsHold base (xs ++ ys) → ReadsHold base ys
ReadsHold-back base [] ys told = told
ReadsHold-back base (x ∷ xs) ys told = ReadsHold-back base xs ys told.1

ReadsHold-append : (base : Cells) (xs ys : List Read) → ReadsHold base xs → ReadsHold base ys → ReadsHold base (xs ++ ys)
ReadsHold-append base [] ys front back = back
ReadsHold-append base (x ∷ xs) ys front back = (front.0, ReadsHold-append base xs ys front.1 back)

pub Holds-one : (base : Cells) (r : Read) → ReadHolds base r → Holds base (r ∷ [])
Holds-one base r told = record { each = (told, tt) }

-- the first read, and the others
pub Holds-head : {base : Cells} {r : Read} {rs : List Read} → Holds base (r ∷ rs) → ReadHolds base r
Holds-head held = held.each.0

-- reads that hold with more reads hold alone
pub Holds-front : (base : Cells) (xs ys : List Read) → Holds base (xs ++ ys) → Holds base xs
Holds-front base xs ys held = record { each = ReadsHold-front base xs ys held.each }

pub Holds-back : (base : Cells) (xs ys : List Read) → Holds base (xs ++ ys) → Holds base ys
Holds-back base xs ys held = record { each = ReadsHold-back base xs ys held.each }

pub Holds-append : (base : Cells) (xs ys : List Read) → Holds base xs → Holds base ys → Holds base (xs ++ ys)
Holds-append base xs ys front back = record { each = ReadsHold-append base xs ys front.each back.each }

-- with one more read
pub Holds-push : (base : Cells) (rs : List Read) (r : Read) → Holds base rs → ReadHolds base r → Holds base (rs ++ r ∷ [])
Holds-push base rs r held told = Holds-append base rs (r ∷ []) held (Holds-one base r told)

-- the last read
pub Holds-last : (base : Cells) (rs : List Read) (r : Read) → Holds base (rs ++ r ∷ []) → ReadHolds base r
Holds-last base rs r held = (Holds-back base rs (r ∷ []) held).each.0
