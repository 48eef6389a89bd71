-- What a watched reader or writer shows.
use Rattle.std.specs.Prelude.{ℕ, List, [], Bool, true, false, Option, option_map}
use Rattle.hp_report.specs.declared.watched.Watched.{Watched}

abbrev pub inner_of : {T : Type 0} → Watched T → T
inner_of w = w.inner

abbrev pub has_failed : {T : Type 0} → Watched T → Bool
has_failed w = w.failed

abbrev pub has_ended : {T : Type 0} → Watched T → Bool
has_ended w = w.ended

-- what a reader gives: its bytes, and none after its end
abbrev pub left_of : (ended : Bool) → Option (List ℕ) → Option (List ℕ)
left_of true known = option_map (λ _. []) known
left_of false known = known
