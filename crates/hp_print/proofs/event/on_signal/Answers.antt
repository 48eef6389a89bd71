use Rattle.std.proofs.Common.{ap, ◌∙◌}
use Rattle.hp_print.specs.Written.{text_with}
use Rattle.hp_print.proofs.Chains.{then_ok}
use Rattle.hp_print.proofs.EventSteps.{on_signal_step}
use Rattle.hp_print.proofs.event.on_signal.Goals as goal

pub returns : goal.returns
returns c = then_ok c.name.result (λ last rest. ap (text_with c.args.w.now) (on_signal_step _ _ rest) ∙ c.in_ok-mark.ensures _ ∙ last rest) c.name.ensures
