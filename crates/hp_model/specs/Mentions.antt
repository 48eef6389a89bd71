-- Which rules of a library a primitive occurrence may trigger.
use Rattle.std.specs.Prelude.{ℕ, suc, List, [], ◌∷◌, if◌then◌else◌}
use Rattle.hp_model.specs.Occurrences.{Primitive}
use Rattle.hp_model.specs.Events.{mentions}
use Rattle.hp_model.specs.Rules.{Rule, Library}

-- the numbers of the rules whose event has a pattern that matches; the first rule of the list is the n-th
abbrev pub mentioning_from : ℕ → List Rule → Primitive → List ℕ
mentioning_from n [] p = []
mentioning_from n (rule ∷ rules) p = if mentions rule.event p then n ∷ mentioning_from (suc n) rules p else mentioning_from (suc n) rules p

-- the same for all rules, in rule order
abbrev pub mentioning : Library → Primitive → List ℕ
mentioning library p = mentioning_from 0 library.rules p
