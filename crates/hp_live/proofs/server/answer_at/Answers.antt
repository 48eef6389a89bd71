use Rattle.std.proofs.Common.{subst}
use Rattle.std.proofs.lemmas.Result.{IfOk-weaker}
use Rattle.hp_live.specs.Kept.{IsStage, manner, declared_by}
use Rattle.hp_live.specs.Outcomes.{Replies}
use Rattle.hp_live.specs.declared.server.Stage.TheVariants.{Up}
use Rattle.hp_live.proofs.Asked.{stands_up}
use Rattle.hp_live.proofs.server.answer_at.Goals as goal

pub returns-in-Up : goal.returns-in-Up
returns-in-Up g c =
    IfOk-weaker c.answer_later.result _ _
    (λ reply f now is. stands_up _ now (λ s. Replies reply (Up c.answer_later.new.base) (manner c.args.options (declared_by c.args.checks)) s c.args.line.now)
    (subst (λ s. IsStage s now) c.in-Up.is is) f)
    c.answer_later.ensures
