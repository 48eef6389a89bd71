use Rattle.std.proofs.Common.{◌≡◌, sym, false}
use Rattle.hp_print.specs.Events.{is_joint}
use Rattle.hp_print.proofs.Readings.{event_holds, no_event}
use Rattle.hp_print.proofs.event.is_joint.Goals as goal

pub returns-in-Some : goal.returns-in-Some
returns-in-Some c n = event_holds (λ e. c.is_joined_form.result ≡ is_joint c.args.joint e) n _ _ (sym c.in-Some.ensures) c.is_joined_form.ensures

pub returns-in-None : goal.returns-in-None
returns-in-None c n = no_event (λ e. false ≡ is_joint c.args.joint e) n _ (sym c.in-None.ensures)
