use Rattle.hp_script.proofs.Timed.{untimed_of}
use Rattle.hp_lines.proofs.laws.scripts_are_read.Goals as goal

pub returns : goal.returns
returns c = untimed_of
