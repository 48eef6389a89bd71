-- A library in which the rules outside a set do nothing.
use Rattle.std.proofs.Common.{arith, ◌≡◌, refl, ap, ◌∙◌, ℕ, zero, suc, ◌+◌, List, [], ◌∷◌, length, map, Bool, true, false, Some}
use Rattle.hp_model.specs.Rules.{Rule, Library}
use Rattle.std.specs.Prelude.{if◌then◌else◌, option_map, slice_get}
use Rattle.hp_model.specs.Chains.{may_detach}
use Rattle.hp_model.specs.Idle.{idle_rule, idle_from}
use Rattle.hp_analysis.specs.Reached.{has}
use Rattle.hp_analysis.specs.Installed.{with_only, rule_in}

module _ (set : List Bool) (classes : ℕ) where
  from_length : (n : ℕ) (rules : List Rule) → length (idle_from (has set) classes n rules) ≡ length rules
  from_length n [] = refl
  from_length n (r ∷ rs) = ap suc (from_length (suc n) rs)

  from_filled : (b : Bool) (n : ℕ) (rules : List Rule) → map (λ (r : Rule). b) rules ≡ map (λ (r : Rule). b) (idle_from (has set) classes n rules)
  from_filled b n [] = refl
  from_filled b n (r ∷ rs) = ap (λ bs. b ∷ bs) (from_filled b (suc n) rs)

pub only_length : (set : List Bool) (library : Library) → length (with_only set library).rules ≡ length library.rules
only_length set library = from_length set (length library.classes) 0 library.rules

-- all rules, or none
pub only_filled : (set : List Bool) (library : Library) (b : Bool) → map (λ (r : Rule). b) library.rules ≡ map (λ (r : Rule). b) (with_only set library).rules
only_filled set library b = from_filled set (length library.classes) b 0 library.rules

from_all : (classes n : ℕ) (rules : List Rule) → idle_from (has []) classes n rules ≡ rules
from_all classes n [] = refl
from_all classes n (r ∷ rs) = ap (λ xs. r ∷ xs) (from_all classes (suc n) rs)

-- a set that has a place for no rule has all rules
pub only_all : (library : Library) → with_only [] library ≡ library
only_all library = ap (λ (rules : List Rule). record { classes = library.classes; rules = rules; depth_limit = library.depth_limit }) (from_all (length library.classes) 0 library.rules)

-- a rule's modes stay
pub rule_detaches : (set : List Bool) (classes n : ℕ) (r : Rule) → may_detach (rule_in set classes n r) ≡ may_detach r
rule_detaches set classes n r = by (has set n)
  where
    by : (b : Bool) → may_detach (if b then r else idle_rule classes r) ≡ may_detach r
    by true = refl
    by false = refl

from_get : (set : List Bool) (classes k n : ℕ) (rules : List Rule) → slice_get (idle_from (has set) classes k rules) n ≡ option_map (rule_in set classes (k + n)) (slice_get rules n)
from_get set classes k n [] = refl
from_get set classes k zero (r ∷ rs) = let e : k ≡ k + 0 = omega arith in ap (λ j. Some (rule_in set classes j r)) e
from_get set classes k (suc n) (r ∷ rs) = let e : suc k + n ≡ k + suc n = omega arith in from_get set classes (suc k) n rs ∙ ap (λ j. option_map (rule_in set classes j) (slice_get rs n)) e

-- the rule of a number
pub only_get : (set : List Bool) (library : Library) (n : ℕ) → slice_get (with_only set library).rules n ≡ option_map (rule_in set (length library.classes) n) (slice_get library.rules n)
only_get set library n =
    let same : 0 + n ≡ n = omega arith in
    from_get set (length library.classes) 0 n library.rules ∙ ap (λ j. option_map (rule_in set (length library.classes) j) (slice_get library.rules n)) same
