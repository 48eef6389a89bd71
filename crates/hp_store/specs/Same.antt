-- Whether two cells hold the same, as a test.
use Rattle.std.specs.Prelude.{◌≡◌, refl, Bool, true, false}
use Rattle.std.proofs.Common.{ap}
use Rattle.std.specs.Bool.{Decides}
use Rattle.std.specs.Cmp.{IsEquivalence, decided}
use Rattle.hp_value.specs.Same.{row_same, row_decides}
use Rattle.hp_detect.specs.Same.{knowledge_same, knowledge_decides}
use Rattle.hp_store.specs.declared.value.Status.{Status}
use Rattle.hp_store.specs.declared.value.Status.TheVariants.{Enabled, Disabled}
use Rattle.hp_store.specs.declared.value.CellValue.{CellValue}
use Rattle.hp_store.specs.declared.value.CellValue.TheVariants.{Row, Status as RuleStatus, Detector}
use Rattle.hp_store.specs.Mapped.{status, cell_value}

abbrev pub status_same : Status → Status → Bool
status_same Enabled Enabled = true
status_same Disabled Disabled = true
status_same s t = false

abbrev pub held_same : CellValue → CellValue → Bool
held_same (Row r) (Row s) = row_same r s
held_same (RuleStatus s) (RuleStatus t) = status_same s t
held_same (Detector k) (Detector l) = knowledge_same k l
held_same v w = false

-- ---- true exactly where the two are equal

pub status_decides : (s t : Status) → Decides (status_same s t) (s ≡ t)
status_decides Enabled Enabled = (λ e. refl, λ e. refl)
status_decides Disabled Disabled = (λ e. refl, λ e. refl)
status_decides s t = (λ e. cc, λ e. cc)

pub held_decides : (v w : CellValue) → Decides (held_same v w) (v ≡ w)
held_decides (Row r) (Row s) = (λ e. ap Row ((row_decides r s).0 e), λ e. (row_decides r s).1 (cc))
held_decides (RuleStatus s) (RuleStatus t) = (λ e. ap RuleStatus ((status_decides s t).0 e), λ e. (status_decides s t).1 (cc))
held_decides (Detector k) (Detector l) = (λ e. ap Detector ((knowledge_decides k l).0 e), λ e. (knowledge_decides k l).1 (cc))
held_decides v w = (λ e. cc, λ e. cc)

pub held_equiv : IsEquivalence held_same
held_equiv = decided held_same held_decides

one_status : (s t : Status) → status s ≡ status t → s ≡ t
one_status Enabled Enabled e = refl
one_status Disabled Disabled e = refl
one_status s t e = cc

-- the model sees all of it
pub one_value : (v w : CellValue) → cell_value v ≡ cell_value w → v ≡ w
one_value (Row r) (Row s) e = ap Row (cc)
one_value (RuleStatus s) (RuleStatus t) e = ap RuleStatus (one_status s t (cc))
one_value (Detector k) (Detector l) e = ap Detector (cc)
one_value v w e = cc
