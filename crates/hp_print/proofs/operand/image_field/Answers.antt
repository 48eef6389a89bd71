use Rattle.std.proofs.Common.{ap, ◌∙◌}
use Rattle.hp_print.specs.Written.{text_with}
use Rattle.hp_print.proofs.Chains.{then_ok}
use Rattle.hp_print.proofs.Operands.{image_field_step}
use Rattle.hp_print.proofs.operand.image_field.Goals as goal

pub returns : goal.returns
returns c = then_ok c.name.result (λ last rest. ap (text_with c.args.w.now) (image_field_step _ _ _ c.sign.ensures _ _ rest) ∙ c.in_ok-mark.ensures _
    ∙ c.in_ok-part.ensures _ ∙ c.in_ok-mark-2.ensures _ ∙ last rest) c.name.ensures
