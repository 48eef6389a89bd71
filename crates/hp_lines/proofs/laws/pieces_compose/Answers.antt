use Rattle.hp_lines.proofs.Pieces.{output-append, after-append}
use Rattle.hp_lines.proofs.laws.pieces_compose.Goals as goal

pub returns : goal.returns
returns c = λ d a b. (output-append d a b, after-append d a b)
