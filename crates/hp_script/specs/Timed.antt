-- Scripts with their version, and the clock's time after their items.
use Rattle.std.specs.Prelude.{ℕ, nat_lt, List, [], length, codes, Ok, Err, if◌then◌else◌}
use Rattle.serde_json.specs.Data.{Data}
use Rattle.hp_model.specs.Values.{◌>>=◌}
use Rattle.hp_model.specs.Rules.{Library}
use Rattle.hp_model.specs.Cascade.{Script}
use Rattle.hp_model.specs.Refusals.{under_root, size_limit, over_limit, Decoded, shaped}
use Rattle.hp_model.specs.RuleHeads.{rule_heads_at}
use Rattle.hp_model.specs.Decode.{Version, Root, version_at, depth_if_any, classes_at, rules_at, units_at, script_scope, root_of, json_at}
use Rattle.hp_script.specs.Scopes.{library_scope}

pub record TimedScript : Type 0 where
  pub script : Script
  pub version : Version
  pub clock : ℕ

-- the library of the root's members, in this version
unfoldable pub library_at : Version → Root → Decoded Library
library_at version root = do
  depth ← depth_if_any (under_root (codes "depth")) root.depth
  classes ← classes_at (under_root (codes "classes")) root.classes
  heads ← rule_heads_at version (under_root (codes "rules")) root.rules
  rules ← rules_at version (script_scope classes heads) (under_root (codes "rules")) heads
  Ok (record { classes = classes; rules = rules; depth_limit = depth })

-- the version, the library, and then the items over it
unfoldable pub timed_script_at : Data → Decoded TimedScript
timed_script_at d = do
  root ← shaped [] (root_of d)
  version ← version_at (under_root (codes "version")) root.version
  library ← library_at version root
  schedule ← units_at version library.rules (library_scope library) (under_root (codes "items")) root.items
  Ok (record {
    script = record { library = library; units = schedule.units };
    version = version;
    clock = schedule.clock;
  })

-- the script in the bytes, with its version and the time after it, or the first refusal
unfoldable pub timed_script_of : List ℕ → Decoded TimedScript
timed_script_of bytes =
    if nat_lt 1048576 (length bytes) then Err (over_limit size_limit) else json_at bytes >>= timed_script_at

-- without the version and the time
abbrev pub untimed : Decoded TimedScript → Decoded Script
untimed (Ok t) = Ok t.script
untimed (Err r) = Err r
