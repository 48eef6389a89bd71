-- What a handle keeps. Only this file names its type.
use Rattle.std.specs.Coded.{Coded, coded_option}
use Rattle.std.specs.declared.option.Option.{Option}
pub use Rattle.hp_live.specs.contracts.session.Session.{the_row}

-- a value of it, as a contract sees it
abbrev pub Kept : Type 0
Kept = the_row.Denot

-- by it a proof tells its values apart
abbrev pub kept_code : Coded (Option Kept)
kept_code = coded_option the_row.coded
