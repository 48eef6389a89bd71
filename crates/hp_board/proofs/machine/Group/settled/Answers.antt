use Rattle.std.proofs.Common.{ap, ◌∙◌, sym, arith, None, length, get_or}
use Rattle.std.specs.Option.{option_copied}
use Rattle.hp_board.proofs.GroupMoves.{settled_past, settled_within, settled_by}
use Rattle.hp_board.proofs.machine.Group.settled.Goals as goal

pub returns-in_err-layer : goal.returns-in_err-layer
returns-in_err-layer g c = ap option_copied c.from_residual.ensures ∙ sym (settled_past c.self.inside _ c.self.view_is c.self.invariant _ c.deref.ensures.value _ c.in_err-layer.ensures.lookup.3)

pub returns-in_err-get-in-Accepted : goal.returns-in_err-get-in-Accepted
returns-in_err-get-in-Accepted g c =
    let within = settled_within c.self.inside _ c.self.view_is c.self.invariant _ c.deref.ensures.value _ c.in_ok-layer.ensures.lookup.3.0 in
    let past = c.in_err-get-in-Accepted.ensures.lookup.3 in
    absurd (omega (arith, within, past, ap length c.deref-in-Accepted.ensures.value))

pub returns-in_ok-get-in-Accepted : goal.returns-in_ok-get-in-Accepted
returns-in_ok-get-in-Accepted g c =
    let at = c.in_ok-layer.ensures.lookup in
    let found = c.in_ok-get-in-Accepted.ensures.lookup in
    c.as_ref.ensures.value
    ∙ (found.3.1 None
    ∙ (ap (λ l. get_or l c.args.task None) c.deref-in-Accepted.ensures.value
    ∙ sym (settled_by c.self.inside _ c.self.view_is c.self.invariant _ c.deref.ensures.value _ _ _ at.3.0 at.1 c.in-Accepted.is)))

pub returns-in-Reran : goal.returns-in-Reran
returns-in-Reran g c =
    let at = c.in_ok-layer.ensures.lookup in
    sym (settled_by c.self.inside _ c.self.view_is c.self.invariant _ c.deref.ensures.value _ _ _ at.3.0 at.1 c.in-Reran.is)
