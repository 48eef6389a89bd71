use Rattle.hp_board.proofs.GroupMoves.{looks}
use Rattle.hp_board.proofs.machine.Group.look.Goals as goal

pub returns : goal.returns
returns g c = looks c.self.inside _ c.self.view_is _ _
