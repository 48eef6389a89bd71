use Rattle.std.proofs.Common.{subst}
use Rattle.std.proofs.lemmas.Result.{IfOk-weaker}
use Rattle.hp_lines.specs.Live as L
use Rattle.hp_live.specs.Sessions.{GaveBy}
use Rattle.hp_live.proofs.session.Session.line.Goals as goal

pub returns-clause-answer : goal.returns-clause-answer
returns-clause-answer c =
    IfOk-weaker c.read_by.result _ _
    (λ outcome f m now is. subst (λ (r : L.Manner). GaveBy r c.read_by.new.self outcome m now c.args.line.now) is.manner_is (f m now is))
    c.read_by.ensures.answer
