-- What two cells hold, compared.
use Rattle.std.proofs.Common.{◌≡◌, ap, sym, subst, Bool}
use Rattle.std.specs.Prelude.{IsTrue}
use Rattle.hp_store.specs.declared.value.CellValue.{CellValue}
use Rattle.hp_store.specs.Mapped.{cell_value}
use Rattle.hp_store.specs.Same.{held_same, held_decides, one_value}

pub model_test : (b : Bool) (v w : CellValue) → held_same v w ≡ b → (IsTrue b → cell_value v ≡ cell_value w) × (cell_value v ≡ cell_value w → IsTrue b)
model_test b v w is =
    (λ t. ap cell_value ((held_decides v w).0 (subst IsTrue (sym is) t)), λ e. subst IsTrue is ((held_decides v w).1 (one_value v w e)))
