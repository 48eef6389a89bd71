use Rattle.std.proofs.Common.{sym, ap, ◌∙◌, map}
use Rattle.std.specs.List.{list_all}
use Rattle.hp_model.specs.Rules.{is_immediate}
use Rattle.hp_model.specs.Tree.{Task}
use Rattle.hp_model.specs.Transactions.{unreleased}
use Rattle.hp_rule.specs.Mapped.{task, detached}
use Rattle.hp_fire.proofs.Immediate.{all_fire, none_is_deferred, none_is_detached}
use Rattle.hp_fire.proofs.placing.place_tasks.Goals as goal

pub returns-clause-immediate : goal.returns-clause-immediate
returns-clause-immediate c =
    let at_once = ap (λ ts. list_all (λ (t : Task). is_immediate t.place) (map task ts)) (sym c.deref.ensures.value) ∙ (sym c.are_immediate.ensures ∙ c.if-not-are_immediate.false) in
    sym (all_fire (map task c.args.tasks.items) at_once)

pub returns-clause-queued : goal.returns-clause-queued
returns-clause-queued c =
    let at_once = ap (λ ts. list_all (λ (t : Task). is_immediate t.place) (map task ts)) (sym c.deref.ensures.value) ∙ (sym c.are_immediate.ensures ∙ c.if-not-are_immediate.false) in
    ap (map task) c.new.ensures.items ∙ sym (none_is_deferred (map task c.args.tasks.items) at_once)

pub returns-clause-detached : goal.returns-clause-detached
returns-clause-detached c =
    let at_once = ap (λ ts. list_all (λ (t : Task). is_immediate t.place) (map task ts)) (sym c.deref.ensures.value) ∙ (sym c.are_immediate.ensures ∙ c.if-not-are_immediate.false) in
    ap (map detached) c.new-2.ensures.items ∙ sym (ap (map unreleased) (none_is_detached (map task c.args.tasks.items) at_once))
