use Rattle.hp_lines.proofs.Pieces.{input_of}
use Rattle.hp_lines.proofs.laws.bytes_are_lines.Goals as goal

pub returns : goal.returns
returns c = input_of
