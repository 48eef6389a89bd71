-- What a checked rule base never meets.
use Rattle.std.specs.Prelude.{◌≡◌, ℕ, IsTrue, false, ⊤, List, [], ◌∷◌, Some, Ok}
use Rattle.std.specs.List.{AllByRecursion}
use Rattle.hp_model.specs.Values.{Cause}
use Rattle.hp_model.specs.Rules.{Library}
use Rattle.hp_model.specs.State.{IsFit}
use Rattle.hp_model.specs.Cascade.{Unit}
use Rattle.hp_model.specs.Ranges.{IsFitLibrary, unit_fits}
use Rattle.hp_model.specs.Endings.{everywhere, ReportHasOnly}
use Rattle.hp_model.specs.Kinds.{Declared, library_kinded, NotOfKinds, ArePastsDeclared}
use Rattle.hp_model.specs.Chains.{NotTooDeep}
use Rattle.hp_model.specs.Decode.{Schedule}
use Rattle.hp_script.specs.Timed.{TimedScript}
use Rattle.hp_script.specs.Requests.{item}
use Rattle.hp_notation.specs.Readings.{timed_script_in, request_in}
use Rattle.hp_analysis.specs.Depths.{library_depth}
use Rattle.hp_lines.specs.Lines.{Line}
use Rattle.hp_lines.specs.Live.{Manner, RuleBase, Stage, unopened, up, closed, answer, reports, stage_after}

-- a cause other than `A3`, `A6` and `A7`
abbrev pub SoundCause : Cause → Type 0
SoundCause c = NotOfKinds c × NotTooDeep c

-- what holds of a checked rule base between two lines: no rule uses a value as what it isn't, no chain has more firings
-- than may nest, and all that was signalled is as declared
pub record IsSoundBase (d : Declared) (base : RuleBase) : Type 0 where
  pub fits : IsFitLibrary base.library
  pub kinded : IsTrue (library_kinded base.library d)
  pub depth : ℕ
  pub depth_is : library_depth base.library ≡ Some depth
  pub state_fits : IsFit base.library base.state
  pub as_declared : ArePastsDeclared d base.state

abbrev pub IsSoundStage : Declared → Stage → Type 0
IsSoundStage d unopened = ⊤
IsSoundStage d (up base) = IsSoundBase d base
IsSoundStage d closed = ⊤

-- ---- the numbers of lines

abbrev pub UnitsFit : Library → List Unit → Type 0
UnitsFit library us = AllByRecursion (λ u. IsTrue (unit_fits library u)) us

-- the numbers in what a line is read as have 64 bits, as all that the program reads
abbrev pub LineFits : Manner → Stage → Line → Type 0
LineFits manner unopened l =
    (t : TimedScript) → timed_script_in manner.is_text l ≡ Ok t → IsFitLibrary t.script.library × UnitsFit t.script.library t.script.units
LineFits manner (up base) l =
    (s : Schedule) → request_in manner.is_text base.version base.library base.clock l ≡ Ok (item s) → UnitsFit base.library s.units
LineFits manner closed l = ⊤

abbrev pub LinesFit : Manner → Stage → List Line → Type 0
LinesFit manner stage [] = ⊤
LinesFit manner stage (l ∷ ls) = LineFits manner stage l × LinesFit manner (answer manner stage l).stage ls

-- lines of JSON have no other numbers: what is read of them has 64 bits, or is refused
abbrev pub JsonLinesFit : Type 0
JsonLinesFit = (manner : Manner) (lines : List Line) → manner.is_text ≡ false → LinesFit manner unopened lines

-- ---- the law

-- nothing in the runs of a checked rule base ends with `A3`, `A6` or `A7`: no transaction, no condition and no action
abbrev pub CheckedAreSound : Type 0
CheckedAreSound = (manner : Manner) (d : Declared) (lines : List Line) → manner.checks ≡ Some d → LinesFit manner unopened lines
    → AllByRecursion (ReportHasOnly (everywhere SoundCause)) (reports manner unopened lines)

-- after each line it is such that this goes on
abbrev pub CheckedStaySound : Type 0
CheckedStaySound = (manner : Manner) (d : Declared) (lines : List Line) → manner.checks ≡ Some d → LinesFit manner unopened lines
    → IsSoundStage d (stage_after manner unopened lines)
