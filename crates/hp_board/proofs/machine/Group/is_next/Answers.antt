use Rattle.std.proofs.Common.{ap, ◌∙◌, sym, ◌==◌}
use Rattle.hp_board.proofs.GroupMoves.{settled_count}
use Rattle.hp_board.proofs.machine.Group.is_next.Goals as goal

pub returns : goal.returns
returns g c = ap (λ n. c.args.task == n) (c.len.ensures ∙ sym (settled_count c.self.inside _ c.self.view_is c.self.invariant))
