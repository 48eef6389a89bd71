-- Which rules of a library a primitive occurrence may trigger.
use Rattle.std.specs.Prelude.{ℕ, Bool, false, List, slice_get}
use Rattle.std.specs.Option.{option_map_or}
use Rattle.hp_model.specs.Occurrences.{Primitive}
use Rattle.hp_model.specs.Events.{mentions}
use Rattle.hp_model.specs.Rules.{Rule}
pub use Rattle.hp_model.specs.Mentions.{mentioning_from, mentioning}

-- whether the event of the rule of this number has a pattern that matches
abbrev pub is_mentioned : List Rule → Primitive → ℕ → Bool
is_mentioned rules p n = option_map_or (λ (r : Rule). mentions r.event p) (slice_get rules n) false
