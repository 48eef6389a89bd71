use Rattle.std.proofs.Common.{ap, ◌∙◌}
use Rattle.hp_print.specs.Written.{text_with}
use Rattle.hp_print.proofs.Chains.{then_ok}
use Rattle.hp_print.proofs.Operands.{key_of_step}
use Rattle.hp_print.proofs.operand.key_of.Goals as goal

pub returns : goal.returns
returns c = then_ok c.mark-2.result (λ last rest. ap (text_with c.args.w.now) (key_of_step _ _ rest) ∙ c.in_ok-name.ensures _ ∙ c.in_ok-mark.ensures _ ∙ last rest) c.mark-2.ensures
