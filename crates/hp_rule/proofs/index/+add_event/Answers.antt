use Rattle.std.proofs.Common.{rules, ◌≡◌, ◌∙◌, sym, ap, ◌||◌}
use Rattle.hp_detect.specs.Mapped.{event}
use Rattle.hp_rule.specs.Noted.{noted_if}
use Rattle.hp_rule.specs.Index.{may_mention}
use Rattle.hp_rule.specs.RuleLists.{listed}
use Rattle.hp_rule.proofs.Numbers.{noted_either}
use Rattle.hp_rule.proofs.index.+add_event.Goals as goal

pub returns-in_ok-add_event-in-Or-2 : goal.returns-in_ok-add_event-in-Or-2
returns-in_ok-add_event-in-Or-2 t c = λ p.
    let parts : may_mention (event c.args.expr.now) p ≡ (may_mention (event c.in-Or.a.value) p || may_mention (event c.in-Or.b.value) p) = search rules in
    let first : listed c.add_event.new.index p ≡ noted_if (may_mention (event c.in-Or.a.value) p) c.args.number (listed c.args.index.now p) = search rules in
    let second : listed c.add_event-in-Or.new.index p ≡ noted_if (may_mention (event c.in-Or.b.value) p) c.args.number (listed c.add_event.new.index p) = search rules in
    second ∙ ap (noted_if (may_mention (event c.in-Or.b.value) p) c.args.number) first
    ∙ noted_either (may_mention (event c.in-Or.a.value) p) (may_mention (event c.in-Or.b.value) p) c.args.number (listed c.args.index.now p)
    ∙ ap (λ b. noted_if b c.args.number (listed c.args.index.now p)) (sym parts)
