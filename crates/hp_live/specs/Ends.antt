-- How a run ends.
use Rattle.std.specs.Prelude.{List, ℕ, Option}
use Rattle.hp_model.specs.Report.{Bytes}
use Rattle.hp_lines.specs.Live.{Manner, Stage, unopened, up, closed, stage_after, lines_by}
use Rattle.hp_report.specs.declared.status.Status.{Status}
use Rattle.hp_report.specs.declared.status.Status.TheVariants.{Reported, Refused}

abbrev pub status_at : Stage → Status
status_at unopened = Reported
status_at (up base) = Reported
status_at closed = Refused

-- the status at the end of an input, which is `Refused` if the script is refused: the file's, or else the first line
abbrev pub status_of : Manner → (script : Option Bytes) → List ℕ → Status
status_of manner script input = status_at (stage_after manner unopened (lines_by script input))
