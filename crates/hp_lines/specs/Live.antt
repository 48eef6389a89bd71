-- The answers of a running rule manager to lines.
use Rattle.std.specs.Prelude.{ℕ, ◌+◌, ◌==◌, Bool, List, [], ◌∷◌, ◌++◌, length, codes, decimal, Option, Some, None, Result, Ok, Err, if◌then◌else◌}
use Rattle.hp_model.specs.Rules.{Library}
use Rattle.hp_model.specs.Kinds.{Declared}
use Rattle.hp_model.specs.State.{State, initial_state}
use Rattle.hp_model.specs.Cascade.{UnitReport, run_units}
use Rattle.hp_model.specs.Decode.{Version, Schedule}
use Rattle.hp_model.specs.Report.{Bytes, line, units_text}
use Rattle.hp_report.specs.Text.{state_text, class_text, object_text}
use Rattle.hp_script.specs.Timed.{TimedScript}
use Rattle.hp_script.specs.Requests.{Excerpt, whole_state, objects_of, object_at, Request, item, show}
use Rattle.hp_lines.specs.Lines.{Line, lines_of, kept_with, begun}
use Rattle.hp_lines.specs.Checked.{checked_by, script_fault, request_fault}
use Rattle.hp_notation.specs.Readings.{timed_script_in, request_in}

-- ---- a running rule base

-- the version of its script, its library, its state, its clock's time, and how many units have run
pub record RuleBase : Type 0 where
  pub version : Version
  pub library : Library
  pub state : State
  pub clock : ℕ
  pub units : ℕ

abbrev pub new_base : Version → Library → RuleBase
new_base version library = record { version = version; library = library; state = initial_state library; clock = 0; units = 0 }

-- before the first line; a rule base is running; the script was refused, and later lines get no answer
pub data Stage : Type 0 where
  unopened : Stage
  up : RuleBase → Stage
  closed : Stage

-- how lines are read and answered: whether they are text in the notation or JSON, whether the answers have trees, and
-- what is declared of signals, if the rule base is checked
pub record Manner : Type 0 where
  pub is_text : Bool
  pub with_tree : Bool
  pub checks : Option Declared

-- ---- answers

-- the lines of an answer before its last, its last line, the stage after it, and the reports of the units that ran
pub record Answer : Type 0 where
  pub body : Bytes
  pub last : Bytes
  pub stage : Stage
  pub ran : List UnitReport

abbrev pub ok_line : ℕ → Bytes
ok_line units = line 0 (codes "ok" ∷ decimal units ∷ [])

-- the units are numbered on from those that ran before
abbrev pub ran : (with_tree : Bool) → RuleBase → Schedule → Answer
ran with_tree base schedule =
    let e = run_units base.library schedule.units base.state in
    let units = base.units + length e.units in
    record {
      body = units_text base.library with_tree (base.units + 1) e.units;
      last = ok_line units;
      stage = up (record { version = base.version; library = base.library; state = e.state; clock = schedule.clock; units = units });
      ran = e.units;
    }

-- a refused line changes nothing
abbrev pub opening_answer : (with_tree : Bool) → Result TimedScript Bytes → Answer
opening_answer with_tree (Err refusal) = record { body = []; last = refusal; stage = closed; ran = [] }
opening_answer with_tree (Ok t) = ran with_tree (new_base t.version t.script.library) (record { units = t.script.units; clock = t.clock })

-- the lines of a part of a state
abbrev pub excerpt_text : Library → State → Excerpt → Bytes
excerpt_text library S whole_state = state_text library S.objects S.rules
excerpt_text library S (objects_of class) = class_text library class S.objects
excerpt_text library S (object_at class key) = object_text library class key S.objects

abbrev pub later_answer : (with_tree : Bool) → RuleBase → Result Request Bytes → Answer
later_answer with_tree base (Err refusal) = record { body = []; last = refusal; stage = up base; ran = [] }
later_answer with_tree base (Ok (item schedule)) = ran with_tree base schedule
later_answer with_tree base (Ok (show excerpt)) =
    record { body = excerpt_text base.library base.state excerpt; last = ok_line base.units; stage = up base; ran = [] }

-- what a first line is read as: a script
abbrev pub script_for : Manner → Line → Result TimedScript Bytes
script_for manner l = checked_by manner.checks script_fault (timed_script_in manner.is_text l)

-- what a later line is read as: an item of the script's version over its library, or a question for a part of the state
abbrev pub request_for : Manner → RuleBase → Line → Result Request Bytes
request_for manner base l =
    checked_by manner.checks (request_fault base.library) (request_in manner.is_text base.version base.library base.clock l)

abbrev pub answer : Manner → Stage → Line → Answer
answer manner unopened l = opening_answer manner.with_tree (script_for manner l)
answer manner (up base) l = later_answer manner.with_tree base (request_for manner base l)
answer manner closed l = record { body = []; last = []; stage = closed; ran = [] }

-- ---- lines, one after the other

abbrev pub answers : Manner → Stage → List Line → Bytes
answers manner stage [] = []
answers manner stage (l ∷ ls) =
    let a = answer manner stage l in
    (a.body ++ a.last) ++ answers manner a.stage ls

-- the reports of all units that ran
abbrev pub reports : Manner → Stage → List Line → List UnitReport
reports manner stage [] = []
reports manner stage (l ∷ ls) = let a = answer manner stage l in a.ran ++ reports manner a.stage ls

abbrev pub stage_after : Manner → Stage → List Line → Stage
stage_after manner stage [] = stage
stage_after manner stage (l ∷ ls) = stage_after manner (answer manner stage l).stage ls

-- the lines of a run: a script's file is the first of them, whatever bytes it has, and the lines of the input follow
abbrev pub lines_by : (script : Option Bytes) → List ℕ → List Line
lines_by None input = lines_of input
lines_by (Some script) input = script ∷ lines_of input

-- all that is written for an input
abbrev pub output : Manner → (script : Option Bytes) → List ℕ → Bytes
output manner script input = answers manner unopened (lines_by script input)

-- ---- the same, byte by byte

-- how lines are read and answered, the stage, and the beginning of the next line
pub record Server : Type 0 where
  pub manner : Manner
  pub stage : Stage
  pub line : Line

abbrev pub new_server : Manner → Server
new_server manner = record { manner = manner; stage = unopened; line = [] }

-- the answer to the kept line, and the server after it
abbrev pub reply : Server → Bytes
reply s = let a = answer s.manner s.stage s.line in a.body ++ a.last

abbrev pub answered : Server → Server
answered s = record { manner = s.manner; stage = (answer s.manner s.stage s.line).stage; line = [] }

abbrev pub grown : Server → ℕ → Server
grown s x = record { manner = s.manner; stage = s.stage; line = kept_with s.line x }

-- what is written after one more byte: the answer, if the byte ends a line
abbrev pub byte_output : Server → ℕ → Bytes
byte_output s x = if x == 10 then reply s else []

abbrev pub next : Server → ℕ → Server
next s x = if x == 10 then answered s else grown s x

-- what is written after a piece of input: the answers to the lines that end in it
abbrev pub piece_output : Server → List ℕ → Bytes
piece_output s [] = []
piece_output s (x ∷ xs) = byte_output s x ++ piece_output (next s x) xs

abbrev pub after : Server → List ℕ → Server
after s [] = s
after s (x ∷ xs) = after (next s x) xs

-- what is written at the end of the input: the answer to a last line without a line feed
abbrev pub end_output : Server → Bytes
end_output s = answers s.manner s.stage (begun s.line)

-- what is written for an input, up to its end, and the stage after it
abbrev pub input_output : Server → List ℕ → Bytes
input_output s input = piece_output s input ++ end_output (after s input)

abbrev pub stage_at_end : Server → List ℕ → Stage
stage_at_end s input = let e = after s input in stage_after e.manner e.stage (begun e.line)

-- ---- before the input

-- what is written for a script's file
abbrev pub opening_output : Manner → (script : Option Bytes) → Bytes
opening_output manner None = []
opening_output manner (Some script) = reply (record { manner = manner; stage = unopened; line = script })

-- the server that takes the input: a script's file has been answered
abbrev pub opened_server : Manner → (script : Option Bytes) → Server
opened_server manner None = new_server manner
opened_server manner (Some script) = answered (record { manner = manner; stage = unopened; line = script })
