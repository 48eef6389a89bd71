use Rattle.std.proofs.Common.{◌≡◌, ◌++◌, drop}
use Rattle.hp_model.specs.Kinds as model
use Rattle.hp_analysis.specs.Places.{place_lists}
use Rattle.hp_analysis.proofs.kinds.columns.merged.Given as goal

-- what is merged so far, and of the rest, is all of it
abbrev pub invariant-loop-i : goal.invariant-loop-i
invariant-loop-i l = place_lists l.places.items ++ model.merged (place_lists (drop l.i l.first)) (place_lists (drop l.i l.second)) ≡ model.merged (place_lists l.first) (place_lists l.second)
