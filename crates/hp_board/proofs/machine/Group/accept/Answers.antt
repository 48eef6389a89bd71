use Rattle.std.proofs.Common.{refl, length}
use Rattle.std.proofs.lemmas.Option.{slice_get_within}
use Rattle.hp_board.specs.declared.machine.Settling.TheVariants.{Accepted}
use Rattle.hp_board.proofs.GroupMoves.{has_room, settles_view, settles_whole, posted_is, with_value, value_of}
use Rattle.hp_board.proofs.machine.Group.accept.Goals as goal

pub push_reserved-requires : goal.push_reserved-requires
push_reserved-requires g c =
    let old = c.args.self.now in
    let x = value_of _ c.requires in
    has_room c.self.inside _ c.self.view_is c.self.invariant (slice_get_within _ _ _ (posted_is old.posted (length old.settled) x.0 x.1))

pub invariant_of-self : goal.invariant_of-self
invariant_of-self g c =
    let old = c.args.self.now in
    let x = value_of _ c.requires in
    settles_whole c.self.inside _ c.self.view_is c.self.invariant _ Accepted x.0 (posted_is old.posted (length old.settled) x.0 x.1) refl c.push_reserved.new.self
    c.push_reserved.ensures.items c.push_reserved.ensures.capacity

pub returns : goal.returns
returns g c =
    let old = c.args.self.now in
    with_value _ _ (λ x is.
    settles_view c.self.inside _ c.self.view_is c.self.invariant _ Accepted x (posted_is old.posted (length old.settled) x is) refl c.push_reserved.new.self c.push_reserved.ensures.items)
