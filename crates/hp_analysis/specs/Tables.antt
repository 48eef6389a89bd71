-- How long chains of firings are, as tables with an entry for each rule.
use Rattle.std.specs.Prelude.{ℕ, Bool, true, false, List, map, Option, Some, None, ◌≡◌, ◌≤◌, ◌<◌}
use Rattle.hp_model.specs.Rules.{Library}
use Rattle.hp_model.specs.Cascade.{Unit, Script}
use Rattle.hp_model.specs.Chains.{rule_within}

-- for each rule whether each chain of firings that begins with one of it has at most so many
abbrev pub within : Library → (most : ℕ) → List Bool
within library most = map (rule_within library most) library.rules

-- the least number that passes the test, if one up to `most` does
abbrev pub IsLeast : (test : ℕ → Bool) → (most : ℕ) → Option ℕ → Type 0
IsLeast test most (Some k) = ((k ≤ most) × (test k ≡ true)) × ((j : ℕ) → j < k → test j ≡ false)
IsLeast test most None = (j : ℕ) → j ≤ most → test j ≡ false

abbrev pub script : Library → List Unit → Script
script library units = record { library = library; units = units }
