-- The word of a rule that does nothing.
use Rattle.std.specs.Prelude.{ℕ, Bool, List, Option, Some, None, codes, if◌then◌else◌}
use Rattle.hp_model.specs.Report.{Bytes}
use Rattle.hp_analysis.specs.Reached.{has}

abbrev pub idle_word : (present reached : List Bool) → ℕ → Option Bytes
idle_word present reached n = if has present n then (if has reached n then None else Some (codes "never")) else Some (codes "uninstalled")
