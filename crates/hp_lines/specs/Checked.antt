-- What a checked rule base refuses: what may ever end with `A3`, `A6` or `A7`.
--     checked_by o fault r    what was read, unless the rule base is checked and the test gives a line that refuses it
--     script_fault d t        the line that refuses a script, by what is declared of signals
--     request_fault d l r     the line that refuses what a later line asks of a rule base of this library
use Rattle.std.specs.Prelude.{ℕ, List, [], ◌∷◌, flat_map, codes, Option, Some, None, Result, Ok, Err}
use Rattle.std.specs.Option.{option_or}
use Rattle.hp_model.specs.Rules.{Library}
use Rattle.hp_model.specs.Kinds.{Declared}
use Rattle.hp_model.specs.Refusals.{to_item}
use Rattle.hp_model.specs.Report.{Bytes, line}
use Rattle.hp_model.specs.Output.{path_text}
use Rattle.hp_script.specs.Timed.{TimedScript}
use Rattle.hp_script.specs.Requests.{Request, item, show}
use Rattle.hp_analysis.specs.Checking.{place_words}
use Rattle.hp_analysis.specs.Depths.{library_depth}
use Rattle.hp_analysis.specs.Findings.{Finding, unit_findings}
use Rattle.hp_analysis.specs.KindFindings.{KindFinding, kind_findings}

-- ---- what was read, if no line refuses it

abbrev pub unless : {A : Type 0} → Option Bytes → A → Result A Bytes
unless None x = Ok x
unless (Some refusal) x = Err refusal

abbrev pub passed : {A : Type 0} → (fault : A → Option Bytes) → Result A Bytes → Result A Bytes
passed fault (Ok x) = unless (fault x) x
passed fault (Err refusal) = Err refusal

-- a rule base that isn't checked takes all that can be read
abbrev pub checked_by : {A : Type 0} → Option Declared → (fault : Declared → A → Option Bytes) → Result A Bytes → Result A Bytes
checked_by None fault read = read
checked_by (Some d) fault read = passed (fault d) read

-- ---- the lines of refusals

-- a value isn't known to be used as what it is at this place
abbrev pub kinds_refusal : (place : List Bytes) → Bytes
kinds_refusal place = line 0 (codes "refused" ∷ codes "S8" ∷ codes "kinds" ∷ place)

-- firings may nest too deep
abbrev pub depth_refusal : Bytes
depth_refusal = line 0 (codes "refused" ∷ codes "S8" ∷ codes "depth" ∷ [])

-- ---- a script

-- the place of the first finding: a path in the script, or a unit and a path in its body
abbrev pub kinds_fault : List KindFinding → Option Bytes
kinds_fault [] = None
kinds_fault (f ∷ fs) = Some (kinds_refusal (place_words f.unit f.finding.path))

-- whatever transactions come later
abbrev pub depth_fault : (longest_chain : Option ℕ) → Option Bytes
depth_fault None = Some depth_refusal
depth_fault (Some most) = None

-- kinds are checked before the depth
abbrev pub script_fault : Declared → TimedScript → Option Bytes
script_fault d t =
    option_or (kinds_fault (kind_findings t.script.library d t.script.units)) (depth_fault (library_depth t.script.library))

-- ---- a later line

-- a path in a body begins at the line's own value, which is `["tx", body]`
abbrev pub body_fault : List Finding → Option Bytes
body_fault [] = None
body_fault (f ∷ fs) = Some (kinds_refusal (path_text (to_item 1 ∷ f.path) ∷ []))

abbrev pub request_fault : Library → Declared → Request → Option Bytes
request_fault library d (item schedule) = body_fault (flat_map (unit_findings library d) schedule.units)
request_fault library d (show excerpt) = None
