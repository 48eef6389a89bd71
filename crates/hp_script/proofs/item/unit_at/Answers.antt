use Rattle.std.proofs.lemmas.Result.{IfOk-weaker}
use Rattle.hp_script.proofs.item.unit_at.Goals as goal

pub returns-in-Clock-clause-own : goal.returns-in-Clock-clause-own
returns-in-Clock-clause-own c = IfOk-weaker c.clock_at.result _ _ (λ s own. own c.args.library.now.value) c.clock_at.ensures.own
