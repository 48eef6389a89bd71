-- Reads that are looked at one by one.
use Rattle.std.proofs.Common.{◌≡◌, sym, ap, ◌∙◌, subst, List, [], ◌∷◌, ◌++◌, append_assoc}
use Rattle.hp_model.specs.Cells.{Cells, Read, ReadHolds, ReadsHold, Holds}
use Rattle.hp_model.proofs.BridgesCells.{Holds-push, Holds-back, Holds-head}

-- those that passed, and those that are left
pub passed_more : {reads rest t : List Read} (passed : List Read) (r : Read) → reads ≡ passed ++ rest → rest ≡ r ∷ t → reads ≡ (passed ++ r ∷ []) ++ t
passed_more {t = t} passed r split is = split ∙ ap (λ rs. passed ++ rs) is ∙ sym (append_assoc passed (r ∷ []) t)

-- one read more holds
pub told_more : (base : Cells) (passed : List Read) (r : Read) → ReadsHold base passed → ReadHolds base r → ReadsHold base (passed ++ r ∷ [])
told_more base passed r held told = (Holds-push base passed r (record { each = held }) told).each

-- one that doesn't hold
pub untold : {base : Cells} {reads rest t : List Read} (passed : List Read) (r : Read) → reads ≡ passed ++ rest → rest ≡ r ∷ t → Holds base reads → ReadHolds base r
untold {base} {t = t} passed r split is held = Holds-head (Holds-back base passed (r ∷ t) (subst (Holds base) (split ∙ ap (λ rs. passed ++ rs) is) held))
