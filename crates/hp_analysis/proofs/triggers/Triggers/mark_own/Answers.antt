use Rattle.std.proofs.Common.{ap, ◌∙◌}
use Rattle.hp_analysis.specs.Graphs.{seen}
use Rattle.hp_rule.specs.Statements.{statement}
use Rattle.hp_analysis.specs.Sets.{marked}
use Rattle.hp_analysis.proofs.Marks.{own_listed}
use Rattle.hp_analysis.proofs.triggers.Triggers.mark_own.Goals as goal

pub returns : goal.returns
returns c =
    let self = c.args.self.now in
    let listed = c.listening.ensures ∙ own_listed self.listeners (seen self) self.of_rules (statement c.args.s.now) c.requires in
    c.mark_all.ensures ∙ ap (λ ns. marked ns c.args.set.now.items) listed
