use Rattle.std.proofs.Common.{ap, ◌∙◌}
use Rattle.hp_print.specs.Written.{text_with}
use Rattle.hp_print.proofs.Chains.{then_ok}
use Rattle.hp_print.proofs.Operands.{time_of_step}
use Rattle.hp_print.proofs.operand.time_of.Goals as goal

pub returns : goal.returns
returns c = then_ok c.word.result (λ last rest. ap (text_with c.args.w.now) (time_of_step _ _ rest) ∙ c.in_ok-mark.ensures _ ∙ c.in_ok-part.ensures _ ∙ c.in_ok-mark-2.ensures _ ∙ last rest)
    c.word.ensures
