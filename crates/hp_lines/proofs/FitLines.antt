-- Lines of JSON fit.
use Rattle.std.proofs.Common.{◌≡◌, refl, Bool, true, false, List, [], ◌∷◌, Option, Result, Ok, Err}
use Rattle.std.specs.Prelude.{⊤}
use Rattle.hp_model.specs.Kinds.{Declared}
use Rattle.hp_model.specs.Decode.{Schedule}
use Rattle.hp_model.specs.Output.{refusal_text}
use Rattle.hp_model.specs.Report.{Bytes}
use Rattle.hp_script.specs.Timed.{TimedScript, timed_script_of}
use Rattle.hp_script.specs.Requests.{Request, item, show, request_of}
use Rattle.hp_notation.specs.Readings.{timed_script_in, request_in}
use Rattle.hp_notation.proofs.Told.{told_ok}
use Rattle.hp_lines.specs.Lines.{Line}
use Rattle.hp_lines.specs.Checked.{checked_by, script_fault, request_fault}
use Rattle.hp_lines.specs.Live.{Manner, RuleBase, Stage, unopened, up, closed, opening_answer, later_answer, answer}
use Rattle.hp_lines.specs.Sound.{LineFits, LinesFit, JsonLinesFit}
use Rattle.hp_lines.proofs.Checked.{checked_read}
use Rattle.hp_lines.proofs.FitScripts.{TimeFits, TimedFits, ScheduleFits, json_script_fits, json_request_fits}

-- the clock of a rule base has 64 bits
abbrev StageFits : Stage → Type 0
StageFits unopened = ⊤
StageFits (up base) = TimeFits base.clock
StageFits closed = ⊤

first_fits : (l : Line) (t : TimedScript) → timed_script_in false l ≡ Ok t → TimedFits t
first_fits l t e = (json_script_fits l).fact t (told_ok refusal_text (timed_script_of l) t e)

later_fits : (base : RuleBase) (l : Line) (s : Schedule) → TimeFits base.clock → request_in false base.version base.library base.clock l ≡ Ok (item s)
    → ScheduleFits base.version base.library s
later_fits base l s fit e =
    (json_request_fits base.version base.library base.clock l fit).fact (item s) (told_ok refusal_text (request_of base.version base.library base.clock l) (item s) e)

opening_stage : (with_tree : Bool) (checks : Option Declared) (read : Result TimedScript Bytes) → ((t : TimedScript) → read ≡ Ok t → TimedFits t)
    → (r : Result TimedScript Bytes) → checked_by checks script_fault read ≡ r → StageFits (opening_answer with_tree r).stage
opening_stage with_tree checks read fit (Err refusal) is = tt
opening_stage with_tree checks read fit (Ok t) is = (fit t (checked_read checks script_fault read t is)).clock_fits

later_stage : (with_tree : Bool) (checks : Option Declared) (base : RuleBase) (read : Result Request Bytes) → TimeFits base.clock
    → ((s : Schedule) → read ≡ Ok (item s) → ScheduleFits base.version base.library s)
    → (r : Result Request Bytes) → checked_by checks (request_fault base.library) read ≡ r → StageFits (later_answer with_tree base r).stage
later_stage with_tree checks base read here fit (Err refusal) is = here
later_stage with_tree checks base read here fit (Ok (show excerpt)) is = here
later_stage with_tree checks base read here fit (Ok (item s)) is = (fit s (checked_read checks (request_fault base.library) read (item s) is)).1

-- by the notation
abbrev written : Manner → (is_text : Bool) → Manner
written manner is_text = record { is_text = is_text; with_tree = manner.with_tree; checks = manner.checks }

line_fits : (manner : Manner) (stage : Stage) (l : Line) → StageFits stage → LineFits (written manner false) stage l × StageFits (answer (written manner false) stage l).stage
line_fits manner unopened l here = (
  λ t e. let fit = first_fits l t e in (fit.library_fits, fit.units_fit),
  opening_stage manner.with_tree manner.checks (timed_script_in false l) (first_fits l) _ refl,
)
line_fits manner (up base) l here = (
  λ s e. (later_fits base l s here e).0,
  later_stage manner.with_tree manner.checks base (request_in false base.version base.library base.clock l) here (λ s e. later_fits base l s here e) _ refl,
)
line_fits manner closed l here = (tt, tt)

lines_fit : (manner : Manner) (stage : Stage) (ls : List Line) → StageFits stage → LinesFit (written manner false) stage ls
lines_fit manner stage [] here = tt
lines_fit manner stage (l ∷ ls) here =
    let first = line_fits manner stage l here in
    (first.0, lines_fit manner (answer (written manner false) stage l).stage ls first.1)

by_notation : (manner : Manner) (ls : List Line) (is_text : Bool) → is_text ≡ false → LinesFit (written manner is_text) unopened ls
by_notation manner ls false is = lines_fit manner unopened ls tt
by_notation manner ls true is = cc

pub json_lines_fit : JsonLinesFit
json_lines_fit manner ls is = by_notation manner ls manner.is_text is
