use Rattle.std.proofs.Common.{◌∙◌, Bool}
use Rattle.hp_query.specs.declared.entry.Findings.{Findings}
use Rattle.hp_query.specs.Mapped.{findings}
use Rattle.hp_query.specs.Same.{findings_same}
use Rattle.hp_rule.proofs.task.are_same.Goals as goal

same : Findings → Findings → Bool
same f g = findings_same (findings f) (findings g)

pub returns : goal.returns
unfolding same
returns c = c.eq.ensures ∙ (λ i. same (c.deref-found.ensures i) (c.deref-others.ensures i))
