use Rattle.hp_lines.proofs.Journal.{accepted_lines_replay}
use Rattle.hp_lines.proofs.laws.accepted_lines_replay.Goals as goal

pub returns : goal.returns
returns c = accepted_lines_replay
