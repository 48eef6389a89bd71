use Rattle.std.proofs.Common.{rules, arith, ◌≡◌, suc, ◌<◌, ◌≤◌, Some, None, is_some, true, false}
use Rattle.std.specs.Prelude.{slice_get}
use Rattle.hp_model.specs.Occurrences.{no_occurrence}
use Rattle.hp_value.specs.Mapped.{coupling}
use Rattle.hp_rule.specs.Mapped.{library, rule as rule_of, task as task_of}
use Rattle.hp_ops.specs.Performs.{status_of}
use Rattle.hp_ops.specs.Notified.{condition_task}
use Rattle.hp_ops.proofs.Triggering.{is_absent, is_there, fires_unknown, fires_absent, fires_deep, fires_task}
use Rattle.hp_ops.proofs.signals.fire.Goals as goal

pub returns-in_default-clause-fires : goal.returns-in_default-clause-fires
returns-in_default-clause-fires c =
    let none : slice_get (library c.args.lib.now).rules c.args.rule ≡ None = search rules in
    fires_unknown (library c.args.lib.now) c.args.time c.args.depth c.args.rule c.find_status.new.view none

pub returns-then-is_none-clause-fires : goal.returns-then-is_none-clause-fires
returns-then-is_none-clause-fires c =
    let none : is_some c.in_ok-status.status ≡ false = search rules in
    fires_absent (library c.args.lib.now) c.args.time c.args.depth c.args.rule c.find_status.new.view (status_of c.in_ok-status.status)
    (c.in_ok-status.ensures.finds (library c.args.lib.now)) (is_absent c.in_ok-status.status none)

pub returns-then-depth-depth_limit-clause-fires : goal.returns-then-depth-depth_limit-clause-fires
returns-then-depth-depth_limit-clause-fires c =
    let some : is_some c.in_ok-status.status ≡ true = search rules in
    let deep : (library c.args.lib.now).depth_limit ≤ c.args.depth = omega arith in
    fires_deep (library c.args.lib.now) c.args.time c.args.depth c.args.rule c.find_status.new.view (status_of c.in_ok-status.status)
    (c.in_ok-status.ensures.finds (library c.args.lib.now)) (is_there c.in_ok-status.status some) deep

pub returns-clause-fires : goal.returns-clause-fires
returns-clause-fires c =
    let some : is_some c.in_ok-status.status ≡ true = search rules in
    let within : c.args.depth < (library c.args.lib.now).depth_limit = omega arith in
    let there : slice_get (library c.args.lib.now).rules c.args.rule ≡ Some (rule_of c.in-Some.known.now) = search rules in
    let made : task_of c.new_task.result ≡ condition_task c.args.rule (coupling c.in-Some.known.now.ec) c.args.time (suc c.args.depth) no_occurrence = search rules in
    fires_task (library c.args.lib.now) c.args.time c.args.depth c.args.rule c.find_status.new.view (status_of c.in_ok-status.status) (rule_of c.in-Some.known.now)
    (task_of c.new_task.result) there (c.in_ok-status.ensures.finds (library c.args.lib.now)) (is_there c.in_ok-status.status some) within made
