use Rattle.std.proofs.Common.{rules, arith, ◌≡◌, subst, suc, ◌<◌, ◌≤◌, length, map}
use Rattle.hp_model.proofs.FaithfulFirings.{AreAt}
use Rattle.hp_value.specs.Mapped.{primitive}
use Rattle.hp_rule.specs.Mapped.{library, task as task_of}
use Rattle.hp_ops.proofs.Triggering.{none_seen, some_seen, triggers_none, triggers_some, triggers_deep}
use Rattle.hp_ops.proofs.signals.trigger.Goals as goal

pub returns-then-is_empty-clause-triggers : goal.returns-then-is_empty-clause-triggers
returns-then-is_empty-clause-triggers c =
    let none : length c.in_ok-tasks.tasks.items ≡ 0 = search rules in
    triggers_none (library c.args.lib.now) c.args.time c.args.depth (primitive c.args.prim.now) c.args.view.now c.notify_all.new.view (map task_of c.in_ok-tasks.tasks.items)
    c.in_ok-tasks.ensures.heard (none_seen task_of c.in_ok-tasks.tasks.items none)

pub returns-then-depth-depth_limit-clause-triggers : goal.returns-then-depth-depth_limit-clause-triggers
returns-then-depth-depth_limit-clause-triggers c =
    let some : length c.in_ok-tasks.tasks.items ≡ 0 → ⊥ = search rules in
    let deep : (library c.args.lib.now).depth_limit ≤ c.args.depth = omega arith in
    triggers_deep (library c.args.lib.now) c.args.time c.args.depth (primitive c.args.prim.now) c.args.view.now c.notify_all.new.view (map task_of c.in_ok-tasks.tasks.items)
    c.in_ok-tasks.ensures.heard (some_seen task_of c.in_ok-tasks.tasks.items some) deep

pub returns-clause-triggers : goal.returns-clause-triggers
returns-clause-triggers c =
    let within : c.args.depth < (library c.args.lib.now).depth_limit = omega arith in
    let below : c.saturating_add.result ≡ suc c.args.depth = omega arith in
    triggers_some (library c.args.lib.now) c.args.time c.args.depth (primitive c.args.prim.now) c.args.view.now c.notify_all.new.view (map task_of c.in_ok-tasks.tasks.items)
    c.in_ok-tasks.ensures.heard
    (subst (λ d. AreAt d (map task_of c.in_ok-tasks.tasks.items)) below c.in_ok-tasks.ensures.depth) within
