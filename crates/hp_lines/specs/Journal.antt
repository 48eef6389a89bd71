-- Accepted lines are a journal: a script of their items gives the same answers and the same state.
use Rattle.std.specs.Prelude.{◌≡◌, nat_lt, List, [], ◌∷◌, ◌++◌, length, Option, Some, None, Result, Ok, Err, if◌then◌else◌}
use Rattle.serde_json.specs.Data.{Data}
use Rattle.hp_model.specs.Cascade.{Script, evaluate}
use Rattle.hp_model.specs.Refusals.{over_limit, size_limit}
use Rattle.hp_model.specs.Json.{list_of}
use Rattle.hp_model.specs.Decode.{Schedule, Root, root_of, json_at, decode, script_of}
use Rattle.hp_model.specs.NotationTree as T
use Rattle.hp_model.specs.NotationPlaces.{read_text}
use Rattle.hp_model.specs.TextScripts.{script_of_text}
use Rattle.hp_model.specs.Report.{Bytes}
use Rattle.hp_model.specs.Output.{text_of}
use Rattle.hp_report.specs.Text.{final_text}
use Rattle.hp_script.specs.Requests.{Request, item, show}
use Rattle.hp_lines.specs.Lines.{Line}
use Rattle.hp_lines.specs.Readings.{script_value, line_value}
use Rattle.hp_lines.specs.Live.{Manner, RuleBase, Stage, unopened, up, closed, request_for, answer, stage_after}

-- the schedule of a line, if the line is an accepted item
abbrev pub item_in : Result Request Bytes → Option Schedule
item_in (Ok (item schedule)) = Some schedule
item_in (Ok (show excerpt)) = None
item_in (Err refusal) = None

abbrev pub item_for : Manner → Stage → Line → Option Schedule
item_for manner unopened l = None
item_for manner (up base) l = item_in (request_for manner base l)
item_for manner closed l = None

abbrev pub value_if : Option Schedule → Option Data → List Data
value_if None value = []
value_if (Some schedule) None = []
value_if (Some schedule) (Some d) = d ∷ []

abbrev pub body_if : Option Schedule → Bytes → Bytes
body_if None body = []
body_if (Some schedule) body = body

-- the JSON values for which the lines that are accepted items stand, in order
abbrev pub accepted : Manner → Stage → List Line → List Data
accepted manner stage [] = []
accepted manner stage (l ∷ ls) = value_if (item_for manner stage l) (line_value manner.is_text l) ++ accepted manner (answer manner stage l).stage ls

-- the answers to these, without their last lines
abbrev pub accepted_bodies : Manner → Stage → List Line → Bytes
accepted_bodies manner stage [] = []
accepted_bodies manner stage (l ∷ ls) = body_if (item_for manner stage l) (answer manner stage l).body ++ accepted_bodies manner (answer manner stage l).stage ls

-- the stage after the first line
abbrev pub opened_by : Manner → Line → Stage
opened_by manner first = (answer manner unopened first).stage

-- the first line's script, with the later lines that are accepted items added to its items
pub record IsJournal (manner : Manner) (first : Line) (later : List Line) (journal : Data) : Type 0 where
  pub script : Data
  pub root : Root
  pub entries : Data
  pub items : List Data
  pub first_is : script_value manner.is_text first ≡ Some script
  pub root_is : root_of script ≡ Some root
  pub journal_is : root_of journal ≡ Some (record { version = root.version; depth = root.depth; classes = root.classes; rules = root.rules; items = entries })
  pub items_are : list_of root.items ≡ Some items
  pub entries_are : list_of entries ≡ Some (items ++ accepted manner (opened_by manner first) later)

-- the script's report has the lines of the answers, and its library and final state are those of the rule base
pub record Replays (manner : Manner) (first : Line) (later : List Line) (journal : Data) (base : RuleBase) : Type 0 where
  pub script : Script
  pub decoded : decode journal ≡ Ok script
  -- the bytes of the journal are read as the script, unless they are more than a script may have
  pub read_is : (text : Bytes) → json_at text ≡ Ok journal → script_of text ≡ (if nat_lt 1048576 (length text) then Err (over_limit size_limit) else Ok script)
  -- the same of a text that stands for it
  pub text_is : (text : Bytes) (s : T.Script) → read_text text ≡ Ok s → T.script_data s ≡ journal
      → script_of_text text ≡ (if nat_lt 1048576 (length text) then Err (record { refusal = over_limit size_limit; place = None }) else Ok script)
  pub library_is : script.library ≡ base.library
  pub state_is : (evaluate script).state ≡ base.state
  pub report_is : text_of manner.with_tree (Ok script)
      ≡ ((answer manner unopened first).body ++ accepted_bodies manner (opened_by manner first) later) ++ final_text base.library base.state.objects base.state.rules

-- where a rule base is running after lines, a journal of the lines replays to it; the first of them is the input's first
-- line, or the bytes of a script's file (`lines_by`)
abbrev pub AcceptedLinesReplay : Type 0
AcceptedLinesReplay = (manner : Manner) (first : Line) (later : List Line) (journal : Data) (base : RuleBase)
    → stage_after manner unopened (first ∷ later) ≡ up base → IsJournal manner first later journal → Replays manner first later journal base
