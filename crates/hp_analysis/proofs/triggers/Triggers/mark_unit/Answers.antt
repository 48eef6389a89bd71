use Rattle.hp_model.specs.Occurrences.{commit_reached}
use Rattle.hp_model.specs.Chains.{signal_triggers, unit_triggers}
use Rattle.hp_analysis.specs.Graphs.{seen}
use Rattle.hp_rule.specs.Mapped.{unit}
use Rattle.hp_analysis.specs.Sets.{begun_by}
use Rattle.hp_analysis.proofs.Marks.{unit_split, marked_twice}
use Rattle.hp_analysis.proofs.triggers.Triggers.mark_unit.Goals as goal

pub returns : goal.returns
returns c =
    let library = seen c.args.self.now in
    marked_twice (begun_by library (unit c.args.begun.now)) (signal_triggers library commit_reached) (unit_triggers library (unit c.args.begun.now)) c.args.set.now.items c.mark_begun.new.set.items
    c.mark_commit.new.set.items c.mark_begun.ensures c.mark_commit.ensures (unit_split library (unit c.args.begun.now))
