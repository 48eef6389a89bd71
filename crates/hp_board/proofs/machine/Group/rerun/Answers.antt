use Rattle.std.proofs.Common.{refl}
use Rattle.std.proofs.lemmas.Option.{slice_get-get_or}
use Rattle.std.specs.Prelude.{None}
use Rattle.hp_board.proofs.GroupMoves.{has_room, settles_view, settles_whole}
use Rattle.hp_board.proofs.machine.Group.rerun.Goals as goal

pub push_reserved-requires : goal.push_reserved-requires
push_reserved-requires g c = has_room c.self.inside _ c.self.view_is c.self.invariant c.requires

pub invariant_of-self : goal.invariant_of-self
invariant_of-self g c =
    settles_whole c.self.inside _ c.self.view_is c.self.invariant _ _ c.args.layer (slice_get-get_or _ _ None c.requires) refl c.push_reserved.new.self
    c.push_reserved.ensures.items c.push_reserved.ensures.capacity

pub returns : goal.returns
returns g c = settles_view c.self.inside _ c.self.view_is c.self.invariant _ _ _ (slice_get-get_or _ _ None c.requires) refl c.push_reserved.new.self c.push_reserved.ensures.items
