use Rattle.std.proofs.Common.{ap, ◌∙◌}
use Rattle.hp_print.specs.Written.{text_with}
use Rattle.hp_print.proofs.Chains.{then_ok}
use Rattle.hp_print.proofs.EventSteps.{at_moment_step}
use Rattle.hp_print.proofs.event.at_moment.Goals as goal

pub returns : goal.returns
returns c = then_ok c.natural.result (λ last rest. ap (text_with c.args.w.now) (at_moment_step _ _ rest) ∙ c.in_ok-word.ensures _ ∙ last rest) c.natural.ensures
