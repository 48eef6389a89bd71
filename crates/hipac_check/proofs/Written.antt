-- Lines that are added one after another are the whole text.
use Rattle.std.proofs.Common.{◌≡◌, sym, ap, ap₂, ◌∙◌, ℕ, suc, List, ◌∷◌, ◌++◌, Bool, append_assoc}
use Rattle.hp_model.specs.Rules.{Rule}
use Rattle.hp_analysis.specs.Guards.{opening}
use Rattle.hp_analysis.specs.Checking.{Shown, opening_line, opening_lines, idle_line, idle_lines}

pub idle_put : (shown : Shown) (present reached : List Bool) (n m : ℕ) (r : Rule) (before rs : List Rule) (old new whole : List ℕ) → m ≡ suc n → before ≡ r ∷ rs
    → new ≡ old ++ idle_line shown present reached n r → old ++ idle_lines shown present reached n before ≡ whole → new ++ idle_lines shown present reached m rs ≡ whole
idle_put shown present reached n m r before rs old new whole next split gained kept =
    ap₂ (λ t k. t ++ idle_lines shown present reached k rs) gained next
    ∙ append_assoc old (idle_line shown present reached n r) (idle_lines shown present reached (suc n) rs)
    ∙ ap (λ xs. old ++ idle_lines shown present reached n xs) (sym split) ∙ kept

pub opening_put : (shown : Shown) (n m : ℕ) (r : Rule) (before rs : List Rule) (old new whole : List ℕ) → m ≡ suc n → before ≡ r ∷ rs
    → new ≡ old ++ opening_line shown n r (opening r) → old ++ opening_lines shown n before ≡ whole → new ++ opening_lines shown m rs ≡ whole
opening_put shown n m r before rs old new whole next split gained kept =
    ap₂ (λ t k. t ++ opening_lines shown k rs) gained next ∙ append_assoc old (opening_line shown n r (opening r)) (opening_lines shown (suc n) rs)
    ∙ ap (λ xs. old ++ opening_lines shown n xs) (sym split) ∙ kept
