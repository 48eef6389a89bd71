-- Which rules a script may ever install, and the library in which the others do nothing.
use Rattle.std.specs.Prelude.{ℕ, Bool, List, length, map, Some, ◌≡◌, if◌then◌else◌}
use Rattle.std.specs.List.{AllByRecursion}
use Rattle.hp_model.specs.Rules.{Rule, Library}
use Rattle.hp_model.specs.Cascade.{Unit, Script, evaluate}
use Rattle.hp_model.specs.Endings.{everywhere, ReportHasOnly}
use Rattle.hp_model.specs.Chains.{NotTooDeep}
use Rattle.hp_model.specs.Idle.{unit_installs, idle_rule, with_idle, InstallsOnly}
use Rattle.hp_analysis.specs.Sets.{no_rules, gathered, installs}
use Rattle.hp_analysis.specs.Reached.{has, closure}
use Rattle.hp_analysis.specs.Tables.{script}
use Rattle.hp_analysis.specs.Depths.{script_depth}

-- the rules that the units may install, those that the actions of these may install, and so on
abbrev pub installed : Library → List Unit → List Bool
installed library units = closure (length library.rules) (map (installs library) library.rules) (gathered unit_installs units (no_rules library))

-- the library in which the rules outside the set do nothing
abbrev pub with_only : (set : List Bool) → Library → Library
with_only set library = with_idle (has set) library

-- the rule of this number in it
abbrev pub rule_in : (set : List Bool) → (classes number : ℕ) → Rule → Rule
rule_in set classes number rule = if has set number then rule else idle_rule classes rule

-- the script with the rules that it may ever install
abbrev pub with_installed : Script → Script
with_installed s = script (with_only (installed s.library s.units) s.library) s.units

-- the script installs no other rule
abbrev pub InstalledSuffice : Type 0
InstalledSuffice = (s : Script) → InstallsOnly (has (installed s.library s.units)) s

-- it does the same if the others do nothing
abbrev pub OthersDoNothing : Type 0
OthersDoNothing = (s : Script) → evaluate s ≡ evaluate (with_installed s)

-- if the depth of the chains among the installed rules is known, no firing of the script nests too deep
abbrev pub KnownDepthHolds : Type 0
KnownDepthHolds = (s : Script) (most : ℕ) → script_depth (with_installed s) ≡ Some most → AllByRecursion (ReportHasOnly (everywhere NotTooDeep)) (evaluate s).units
