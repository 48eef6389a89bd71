use Rattle.std.proofs.Common.{rules, ◌≡◌, ◌∙◌, length, true}
use Rattle.hp_model.specs.Occurrences.{commit_reached}
use Rattle.hp_model.specs.Chains.{may_detach, body_triggers, signal_triggers, rule_triggers}
use Rattle.hp_rule.specs.Statements.{rule}
use Rattle.hp_analysis.specs.Graphs.{seen}
use Rattle.hp_analysis.specs.Installed.{rule_in}
use Rattle.hp_analysis.proofs.Only.{rule_detaches}
use Rattle.hp_analysis.proofs.Marks.{rule_split, marked_twice}
use Rattle.hp_analysis.proofs.triggers.Triggers.mark_rule.Goals as goal

pub returns-then-may_detach : goal.returns-then-may_detach
returns-then-may_detach c =
    let self = c.args.self.now in
    let library = seen self in
    let r = rule_in self.present.items (length library.classes) c.args.number (rule c.args.fired.now) in
    let own : may_detach (rule c.args.fired.now) ≡ true = search rules in
    let detaches : may_detach r ≡ true = rule_detaches self.present.items (length library.classes) c.args.number (rule c.args.fired.now) ∙ own in
    marked_twice (body_triggers library r.action) (signal_triggers library commit_reached) (rule_triggers library r) c.args.set.now.items c.mark_action.new.set.items c.mark_commit.new.set.items
    c.mark_action.ensures c.mark_commit.ensures (rule_split library r detaches)
