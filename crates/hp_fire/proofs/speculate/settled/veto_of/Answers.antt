use Rattle.std.proofs.Common.{sym, ap, ◌∙◌, ◌≡◌, ◌-◌, length, slice_get, Some}
use Rattle.std.specs.Option.{option_copied}
use Rattle.std.proofs.lemmas.Result.{IfOk-weaker}
use Rattle.hp_fire.proofs.Helping.{last_stops}
use Rattle.hp_fire.proofs.speculate.settled.veto_of.Goals as goal

pub returns-in-Some : goal.returns-in-Some
returns-in-Some c =
    let last : slice_get c.args.front.now (length c.args.front.now - 1) ≡ Some c.in-Some.last.now = sym c.last.ensures.value ∙ ap option_copied c.in-Some.is in
    IfOk-weaker c.stopping_veto.result _ _ (λ v is. is ∙ sym (last_stops c.args.stop_at_veto c.args.front.now c.in-Some.last.now last)) c.stopping_veto.ensures
