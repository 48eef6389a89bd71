use Rattle.std.proofs.lemmas.Slice.Zip.{either_empty_from_Zip}
use Rattle.hp_report.specs.Mapped.{rule, rule_state}
use Rattle.hp_report.proofs.Lines.{rules_text_end}
use Rattle.hp_report.proofs.text.rules.put_rules.Goals as goal

pub returns : goal.returns
returns c =
    rules_text_end rule rule_state _ _ _ _
    (either_empty_from_Zip c.loop-rule.rule-iterator c.next.new.self _ c.in-None.is c.next.ensures.steps) c.loop-rule.invariant
