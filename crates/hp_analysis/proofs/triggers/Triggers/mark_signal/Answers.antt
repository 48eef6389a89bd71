use Rattle.std.proofs.Common.{ap, ◌∙◌}
use Rattle.hp_analysis.specs.Graphs.{seen}
use Rattle.hp_analysis.specs.Sets.{marked}
use Rattle.hp_analysis.proofs.Marks.{signal_listed}
use Rattle.hp_analysis.proofs.triggers.Triggers.mark_signal.Goals as goal

pub returns : goal.returns
returns c =
    let self = c.args.self.now in
    c.mark_all.ensures ∙ ap (λ ns. marked ns c.args.set.now.items) (c.rules.ensures ∙ signal_listed self.listeners (seen self) self.of_rules c.args.name.now)
