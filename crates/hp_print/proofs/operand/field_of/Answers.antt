use Rattle.std.proofs.Common.{ap, ◌∙◌}
use Rattle.hp_print.specs.Written.{text_with}
use Rattle.hp_print.proofs.Chains.{then_ok}
use Rattle.hp_print.proofs.Operands.{field_of_step}
use Rattle.hp_print.proofs.operand.field_of.Goals as goal

pub returns : goal.returns
returns c = then_ok c.name-2.result (λ last rest. ap (text_with c.args.w.now) (field_of_step _ _ _ rest) ∙ c.in_ok-name.ensures _ ∙ c.in_ok-mark.ensures _ ∙ last rest) c.name-2.ensures
