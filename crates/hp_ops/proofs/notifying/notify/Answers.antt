use Rattle.std.proofs.Common.{rules, ◌≡◌, ap, sym, ◌∙◌, subst, true≢false, Some, None}
use Rattle.std.specs.Prelude.{option_map, slice_get}
use Rattle.hp_value.specs.Mapped.{occurrence as occurrence_of, primitive}
use Rattle.hp_model.specs.Rules.{Rule, no_rule, rule_at}
use Rattle.hp_model.specs.State.{enabled}
use Rattle.hp_rule.specs.Mapped.{library, rule as rule_of, task as task_of}
use Rattle.hp_ops.specs.Performs.{status_of}
use Rattle.hp_ops.specs.Notified.{NotifiedEnabled, condition_task}
use Rattle.hp_ops.proofs.Adding.{adds_status, adds_detector}
use Rattle.hp_ops.proofs.Ruling.{found_at}
use Rattle.hp_ops.proofs.Notices.{tells_idle, tells_nowhere, tells_enabled}
use Rattle.hp_ops.proofs.notifying.notify.Goals as goal

pub returns-then-not-is_enabled-clause-notified : goal.returns-then-not-is_enabled-clause-notified
returns-then-not-is_enabled-clause-notified c =
    tells_idle (library c.args.lib.now) c.args.notice.now.time (primitive c.args.notice.now.prim.now) c.args.number c.args.view.now c.find_status.new.view (status_of c.in_ok-status.status)
    c.in_ok-status.ensures.only c.in_ok-status.ensures.shows (λ e. absurd (true≢false (sym (c.is_enabled.ensures.1 e) ∙ c.if-not-is_enabled.true)))

pub returns-in_default-clause-notified : goal.returns-in_default-clause-notified
returns-in_default-clause-notified c =
    let is : status_of c.in_ok-status.status ≡ enabled = c.is_enabled.ensures.0 (search rules) in
    let none : slice_get (library c.args.lib.now).rules c.args.number ≡ None = search rules in
    tells_nowhere (library c.args.lib.now) c.args.notice.now.time (primitive c.args.notice.now.prim.now) c.args.number c.args.view.now c.find_status.new.view (status_of c.in_ok-status.status)
    c.in_ok-status.ensures.only c.in_ok-status.ensures.shows is none

pub returns-in_default-made-clause-notified : goal.returns-in_default-made-clause-notified
returns-in_default-made-clause-notified c =
    let is : status_of c.in_ok-status.status ≡ enabled = c.is_enabled.ensures.0 (search rules) in
    let there : slice_get (library c.args.lib.now).rules c.args.number ≡ Some (rule_of c.in-Some.rule.now) = search rules in
    let at = (found_at (library c.args.lib.now).rules c.args.number (rule_of c.in-Some.rule.now) no_rule there).1 in
    let none : None ≡ option_map (condition_task c.args.number (rule_at (library c.args.lib.now) c.args.number).event_coupling c.args.notice.now.time c.args.notice.now.depth)
    (option_map (λ o. occurrence_of o.value) c.in_ok-made.made) = search rules in
    tells_enabled (library c.args.lib.now) c.args.notice.now.time (primitive c.args.notice.now.prim.now) c.args.number c.args.view.now c.find_status.new.view (status_of c.in_ok-status.status)
    c.in_ok-status.ensures.only c.in_ok-status.ensures.shows c.notify_enabled.new.view c.args.notice.now.depth (option_map (λ o. occurrence_of o.value) c.in_ok-made.made)
    None c.in_ok-made.next is none
    (c.in_ok-made.ensures.notified (library c.args.lib.now) at)

pub returns-clause-notified : goal.returns-clause-notified
returns-clause-notified c =
    let is : status_of c.in_ok-status.status ≡ enabled = c.is_enabled.ensures.0 (search rules) in
    let there : slice_get (library c.args.lib.now).rules c.args.number ≡ Some (rule_of c.in-Some.rule.now) = search rules in
    let at = (found_at (library c.args.lib.now).rules c.args.number (rule_of c.in-Some.rule.now) no_rule there).1 in
    let o = occurrence_of c.in-Some-made.occurrence.value in
    let made : Some (task_of c.new_task-task.result) ≡ option_map (condition_task c.args.number (rule_at (library c.args.lib.now) c.args.number).event_coupling
    c.args.notice.now.time c.args.notice.now.depth) (Some (occurrence_of c.in-Some-made.occurrence.value)) =
    ap Some (c.new_task-task.ensures ∙ ap (λ (r : Rule). condition_task c.args.number r.event_coupling c.args.notice.now.time c.args.notice.now.depth o) (sym at)) in
    let occurs : option_map (λ o. occurrence_of o.value) c.in_ok-made.made ≡ Some (occurrence_of c.in-Some-made.occurrence.value) = search rules in
    tells_enabled (library c.args.lib.now) c.args.notice.now.time (primitive c.args.notice.now.prim.now) c.args.number c.args.view.now c.find_status.new.view (status_of c.in_ok-status.status)
    c.in_ok-status.ensures.only c.in_ok-status.ensures.shows c.notify_enabled.new.view c.args.notice.now.depth (Some o) (Some (task_of c.new_task-task.result)) c.in_ok-made.next is made
    (subst (λ x. NotifiedEnabled (library c.args.lib.now) (primitive c.args.notice.now.prim.now) c.args.number c.find_status.new.view c.notify_enabled.new.view x c.in_ok-made.next)
    occurs (c.in_ok-made.ensures.notified (library c.args.lib.now) at))

pub returns-then-not-is_enabled-clause-reads : goal.returns-then-not-is_enabled-clause-reads
returns-then-not-is_enabled-clause-reads c = adds_status c.args.number c.in_ok-status.ensures.reads

pub returns-in_default-clause-reads : goal.returns-in_default-clause-reads
returns-in_default-clause-reads c = adds_status c.args.number c.in_ok-status.ensures.reads

pub returns-in_err-made-clause-reads : goal.returns-in_err-made-clause-reads
returns-in_err-made-clause-reads c = adds_detector c.args.number c.in_ok-status.ensures.reads c.notify_enabled.ensures.reads

pub returns-in_default-made-clause-reads : goal.returns-in_default-made-clause-reads
returns-in_default-made-clause-reads c = adds_detector c.args.number c.in_ok-status.ensures.reads c.notify_enabled.ensures.reads

pub returns-clause-reads : goal.returns-clause-reads
returns-clause-reads c = adds_detector c.args.number c.in_ok-status.ensures.reads c.notify_enabled.ensures.reads
