use Rattle.std.proofs.Common.{ap, sym, ◌∙◌}
use Rattle.hp_value.specs.Mapped.{veto}
use Rattle.hp_fire.specs.Mapped.{end}
use Rattle.hp_fire.proofs.Adding.{inside_some, inside_none}
use Rattle.hp_fire.proofs.course.veto_inside.Goals as goal

pub returns-in-Vetoed : goal.returns-in-Vetoed
returns-in-Vetoed c = λ o is. inside_some (veto c.in-Vetoed.veto) o (sym (ap end c.in-Vetoed.is) ∙ is)

pub returns : goal.returns
returns c = λ o is. inside_none c.args.how o (λ v e. c.in_default.not-Vetoed v e) is
