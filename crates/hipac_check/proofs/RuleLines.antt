-- The lines that name a rule.
use Rattle.std.proofs.Common.{◌≡◌, refl, ap, ap₂, ◌∙◌, ℕ, List, [], ◌∷◌, ◌++◌, Bool, true, false, Option, Some, None, append_assoc, append-nil}
use Rattle.std.specs.Prelude.{codes, if◌then◌else◌}
use Rattle.hp_model.specs.Rules.{Rule}
use Rattle.hp_model.specs.Report.{Bytes, line}
use Rattle.hp_model.specs.Refusals.{to_member, to_item}
use Rattle.hp_analysis.specs.Guards.{Opening}
use Rattle.hp_analysis.specs.Reached.{has}
use Rattle.hp_analysis.specs.Checking.{Shown, rule_words, part_of, opening_line, idle_line}
use Rattle.hipac_check.specs.Words.{idle_word}

-- three words
pub named_is : (w at name : Bytes) → w ++ 32 ∷ (at ++ 32 ∷ (name ++ 10 ∷ [])) ≡ line 0 (w ∷ at ∷ name ∷ [])
named_is w at name = simp (append_assoc, append-nil)

-- a guard with an opening
pub open_is : (shown : Shown) (n p : ℕ) (r : Rule) (name : Bytes) (o : Opening) (found : Option Opening) → name ≡ r.name → p ≡ part_of o → Some o ≡ found
    → line 0 (codes "open" ∷ shown.at (to_member (codes "rules") ∷ to_item n ∷ to_item p ∷ []) ∷ name ∷ []) ≡ opening_line shown n r found
open_is shown n p r name o found named part is =
    ap₂ (λ k x. line 0 (codes "open" ∷ shown.at (to_member (codes "rules") ∷ to_item n ∷ to_item k ∷ []) ∷ x ∷ [])) part named ∙ ap (opening_line shown n r) is

-- a rule that does nothing
abbrev word_line : Shown → ℕ → Rule → Option Bytes → Bytes
word_line shown n r None = []
word_line shown n r (Some w) = line 0 (w ∷ rule_words shown n r)

idle_is : (shown : Shown) (present reached : List Bool) (n : ℕ) (r : Rule) → word_line shown n r (idle_word present reached n) ≡ idle_line shown present reached n r
idle_is shown present reached n r = by (has present n) (has reached n)
  where
    by : (a b : Bool) → word_line shown n r (if a then (if b then None else Some (codes "never")) else Some (codes "uninstalled"))
        ≡ (if a then (if b then [] else line 0 (codes "never" ∷ rule_words shown n r)) else line 0 (codes "uninstalled" ∷ rule_words shown n r))
    by true true = refl
    by true false = refl
    by false b = refl

pub idle_told : (shown : Shown) (present reached : List Bool) (n : ℕ) (r : Rule) (w name : Bytes) → name ≡ r.name → Some w ≡ idle_word present reached n
    → line 0 (w ∷ shown.at (to_member (codes "rules") ∷ to_item n ∷ []) ∷ name ∷ []) ≡ idle_line shown present reached n r
idle_told shown present reached n r w name named is =
    ap (λ x. line 0 (w ∷ shown.at (to_member (codes "rules") ∷ to_item n ∷ []) ∷ x ∷ [])) named ∙ ap (word_line shown n r) is ∙ idle_is shown present reached n r

pub idle_silent : (shown : Shown) (present reached : List Bool) (n : ℕ) (r : Rule) → None ≡ idle_word present reached n → [] ≡ idle_line shown present reached n r
idle_silent shown present reached n r is = ap (word_line shown n r) is ∙ idle_is shown present reached n r
