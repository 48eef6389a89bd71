use Rattle.std.proofs.Common.{ap, ◌∙◌}
use Rattle.hp_print.specs.Written.{text_with}
use Rattle.hp_print.proofs.Chains.{then_ok}
use Rattle.hp_print.proofs.Operands.{key_in_step}
use Rattle.hp_print.proofs.operand.key_in.Goals as goal

pub returns : goal.returns
returns c = then_ok c.mark-3.result (λ last rest. ap (text_with c.args.w.now) (key_in_step _ _ rest) ∙ c.in_ok-mark.ensures _ ∙ c.in_ok-part.ensures _
    ∙ c.in_ok-mark-2.ensures _ ∙ last rest) c.mark-3.ensures
