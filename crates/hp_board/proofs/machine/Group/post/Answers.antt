use Rattle.hp_board.proofs.GroupMoves.{posts_view, posts_whole}
use Rattle.hp_board.proofs.machine.Group.post.Goals as goal

pub invariant_of-self : goal.invariant_of-self
invariant_of-self g c = posts_whole c.self.inside _ c.self.view_is c.self.invariant _ _ c.requires.fresh

pub returns : goal.returns
returns g c = posts_view c.self.inside _ c.self.view_is c.self.invariant _ _ c.requires.fresh
