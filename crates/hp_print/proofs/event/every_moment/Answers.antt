use Rattle.std.proofs.Common.{ap, ◌∙◌}
use Rattle.hp_print.specs.Written.{text_with}
use Rattle.hp_print.proofs.Chains.{then_ok}
use Rattle.hp_print.proofs.EventSteps.{every_moment_step}
use Rattle.hp_print.proofs.event.every_moment.Goals as goal

pub returns : goal.returns
returns c = then_ok c.natural-2.result (λ last rest. ap (text_with c.args.w.now) (every_moment_step _ _ _ rest) ∙ c.in_ok-word.ensures _ ∙ c.in_ok-natural.ensures _
    ∙ c.in_ok-word-2.ensures _ ∙ last rest) c.natural-2.ensures
