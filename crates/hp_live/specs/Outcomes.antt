-- What becomes of a line.
use Rattle.std.specs.Prelude.{◌≡◌, Result, Ok, Err}
use Rattle.hp_model.specs.Report.{Bytes}
use Rattle.hp_lines.specs.Lines.{Line}
use Rattle.hp_lines.specs.Live as L
use Rattle.hp_live.specs.Kept.{Answers}
use Rattle.hp_live.specs.declared.server.Stage.{Stage}
use Rattle.hp_live.specs.declared.server.Reply.{Reply}
use Rattle.hp_live.specs.declared.server.Outcome.{Outcome}
use Rattle.hp_live.specs.declared.server.Outcome.TheVariants.{Done, Refused, Closed}

-- what was read is done, or the line that says why it is refused is the answer
abbrev pub outcome_by : {A : Type 0} → Result A Bytes → Outcome
outcome_by (Ok x) = Done
outcome_by (Err refusal) = Refused

abbrev pub outcome_of : L.Manner → L.Stage → Line → Outcome
outcome_of manner L.unopened l = outcome_by (L.script_for manner l)
outcome_of manner (L.up base) l = outcome_by (L.request_for manner base l)
outcome_of manner L.closed l = Closed

-- the reply to a line, and the kept stage after it
pub record Replies (reply : Reply) (kept : Stage) (manner : L.Manner) (stage : L.Stage) (line : Line) : Type 0 where
  pub answers : Answers reply.text kept (L.answer manner stage line)
  pub outcome_is : reply.outcome ≡ outcome_of manner stage line
