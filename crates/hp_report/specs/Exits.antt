-- The exit statuses of the programs.
use Rattle.std.specs.Prelude.{ℕ, Result, Ok, Err}
use Rattle.hp_report.specs.declared.fault.Fault.{Fault}
use Rattle.hp_report.specs.declared.status.Status.{Status}
use Rattle.hp_report.specs.declared.status.Status.TheVariants.{Reported, Refused}

abbrev pub code_of : Result Status Fault → ℕ
code_of (Ok Reported) = 0
code_of (Ok Refused) = 2
code_of (Err f) = 4
