-- Cells as the code orders them.
use Rattle.std.proofs.Common.{◌≡◌, refl, ap, ap₂, ◌∙◌, subst, ℕ, ℤ, true, ◌&&◌, int_eq}
use Rattle.std.specs.Prelude.{◌==◌}
use Rattle.std.specs.Cmp.{Equal-is}
use Rattle.std.specs.declared.cmp.Ordering.{Ordering}
use Rattle.std.specs.declared.cmp.Ordering.TheVariants.{Less, Equal, Greater}
use Rattle.std.specs.Ordering.{is_eq, nat_cmp, int_cmp, ordering_then}
use Rattle.std.specs.BTreeMap.{is_at}
use Rattle.std.proofs.lemmas.Bool.Decides.{same_from_decides, Decides-eqb, Decides-int_eq}
use Rattle.std.proofs.lemmas.Cmp.{nat_cmp_total, int_cmp_total, tied_itself}
use Rattle.std.proofs.lemmas.Map.Lookups.{exact_unsigned, exact_signed}
use Rattle.hp_model.specs.Cells.{same_cell}
use Rattle.hp_value.specs.declared.cell.Cell.{Cell}
use Rattle.hp_value.specs.declared.cell.Cell.TheVariants.{Object, Rule, Detector}
use Rattle.hp_value.specs.contracts.cell.CellOrd.TheImpl as order
use Rattle.hp_value.specs.Mapped.{cell}

-- the order of the cells in a map
abbrev pub cell_cmp : Cell → Cell → Ordering
cell_cmp = order.ghosts.cmp

pub nat_at : (a b : ℕ) → is_eq (nat_cmp a b) ≡ (a == b)
nat_at a b =
    same_from_decides (is_eq (nat_cmp a b)) (a == b)
    (λ h. exact_unsigned a b ((Equal-is (nat_cmp a b)).0 h), λ e. subst (λ c. is_eq (nat_cmp a c) ≡ true) e (ap is_eq (tied_itself nat_cmp_total a)))
    (Decides-eqb a b)

pub int_at : (a b : ℤ) → is_eq (int_cmp a b) ≡ int_eq a b
int_at a b =
    same_from_decides (is_eq (int_cmp a b)) (int_eq a b)
    (λ h. exact_signed a b ((Equal-is (int_cmp a b)).0 h), λ e. subst (λ c. is_eq (int_cmp a c) ≡ true) e (ap is_eq (tied_itself int_cmp_total a)))
    (Decides-int_eq a b)

pub then_both : (r s : Ordering) → is_eq (ordering_then r s) ≡ (is_eq r && is_eq s)
then_both Less s = refl
then_both Equal s = refl
then_both Greater s = refl

-- the map's order tells the same cells apart
pub same_at : (c d : Cell) → is_at (cell_cmp c) d ≡ same_cell (cell c) (cell d)
same_at (Object a k) (Object b l) = then_both (nat_cmp a b) (int_cmp k l) ∙ ap₂ (λ x y. x && y) (nat_at a b) (int_at k l)
same_at (Rule m) (Rule n) = nat_at m n
same_at (Detector m) (Detector n) = nat_at m n
same_at (Object a k) (Rule n) = refl
same_at (Object a k) (Detector n) = refl
same_at (Rule m) (Object b l) = refl
same_at (Rule m) (Detector n) = refl
same_at (Detector m) (Object b l) = refl
same_at (Detector m) (Rule n) = refl
