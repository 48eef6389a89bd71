use Rattle.std.proofs.Common.{◌∙◌, ap, subst}
use Rattle.std.proofs.lemmas.Result.{IfOk-weaker}
use Rattle.hp_lines.specs.Lines.{Line}
use Rattle.hp_lines.specs.Live as L
use Rattle.hp_live.specs.Sessions.{Gave, show_line}
use Rattle.hp_live.proofs.session.Session.show.Goals as goal

pub returns-clause-answer : goal.returns-clause-answer
returns-clause-answer c =
    IfOk-weaker c.line.result _ _
    (λ outcome f m now is. subst (λ (l : Line). Gave c.line.new.self outcome m now l) (c.as_bytes.ensures.value ∙ c.state_line-line.ensures ∙ ap (λ
    (k : L.Manner). show_line k.is_text) is.manner_is) (f m now is))
    c.line.ensures.answer
