use Rattle.std.proofs.Common.{◌∙◌, ap, subst, ℤ, w64}
use Rattle.std.proofs.lemmas.Int.{to_z-of_z}
use Rattle.std.proofs.lemmas.Result.{IfOk-weaker}
use Rattle.hp_lines.specs.Lines.{Line}
use Rattle.hp_lines.specs.Live as L
use Rattle.hp_live.specs.Sessions.{GaveBy, in_json, get_line}
use Rattle.hp_live.proofs.session.Session.get.Goals as goal

pub returns-in-Ok-clause-answer : goal.returns-in-Ok-clause-answer
returns-in-Ok-clause-answer c =
    let key = ap (λ (k : ℤ). get_line c.args.class.now k) (to_z-of_z w64 c.args.key c.ranges.key) in
    IfOk-weaker c.read_by.result _ _
    (λ outcome f m now is.
    subst (λ (l : Line). GaveBy (in_json m) c.read_by.new.self outcome m now l) (c.deref.ensures.value ∙ c.in-Ok.ensures ∙ key)
    (subst (λ (r : L.Manner). GaveBy (in_json r) c.read_by.new.self outcome m now c.deref.result.now) is.manner_is (f m now is)))
    c.read_by.ensures.answer
