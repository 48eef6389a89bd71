use Rattle.std.proofs.Common.{ap, ◌∙◌}
use Rattle.hp_print.specs.Written.{text_with}
use Rattle.hp_print.proofs.Chains.{then_ok}
use Rattle.hp_print.proofs.Beginnings.{apart_step}
use Rattle.hp_print.proofs.expression.apart_from.Goals as goal

pub returns : goal.returns
returns c = then_ok c.enclosed.result (λ last rest. ap (text_with c.args.w.now) (apart_step _ _ _ _ c.begins.ensures rest) ∙ last rest) c.enclosed.ensures
