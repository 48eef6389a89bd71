use Rattle.std.proofs.Common.{arith, ◌≡◌, refl, ap, sym, ◌∙◌, subst, ◌+◌, ◌≤◌, [], ◌++◌, map, length, get_or, true}
use Rattle.std.specs.Prelude.{option_map, option_to_list}
use Rattle.hp_store.specs.Changes.{changes}
use Rattle.hp_store.proofs.Based.{on_err}
use Rattle.hp_model.proofs.FaithfulFirings.{AreAt}
use Rattle.hp_value.specs.Mapped.{primitive}
use Rattle.hp_rule.specs.Mapped.{library, task as task_of}
use Rattle.hp_rule.specs.Mentions.{is_mentioned}
use Rattle.hp_view.specs.Adding.{adds_none}
use Rattle.hp_view.specs.Looks.{only_reads_same, only_reads_then}
use Rattle.hp_view.proofs.Views.{GoesOn-same, GoesOn-then}
use Rattle.hp_ops.specs.Reading.{IsReadOfMentioned}
use Rattle.hp_ops.specs.Stepped.{entries}
use Rattle.hp_ops.proofs.Adding.{adds_mentioned}
use Rattle.hp_ops.proofs.Notices.{HaveHeard, mentioned_among, none_heard, told_listed, all_listed, depth_more, tasks_more, reads_alone, reads_then_same, steps_written}
use Rattle.hp_ops.proofs.notifying.notify_all.Goals as goal

pub loop-number-init : goal.loop-number-init
loop-number-init c =
    let none : [] ≡ map task_of c.new-tasks.result.items = ap (map task_of) (sym c.new-tasks.ensures.items) in
    record {
      all = c.listed-number-items.ensures;
      heard = subst (HaveHeard (library c.args.lib.now) c.args.time (primitive c.args.prim.now) [] c.args.view.now c.args.view.now _) none
          (none_heard (library c.args.lib.now) (primitive c.args.prim.now) c.args.time c.args.view.now);
      shared = tt;
      depth = subst (AreAt c.args.depth) none tt;
      reads = adds_none (IsReadOfMentioned (library c.args.lib.now) (primitive c.args.prim.now)) refl;
      only = only_reads_same c.args.view.now;
      goes_on = GoesOn-same c.args.view.now;
    }

pub loop-number-preserved : goal.loop-number-preserved
loop-number-preserved c =
    let ns = c.listed-number-items.result.now in
    let n = get_or c.listed-number-items.result.now c.loop-number.number-index 0 in
    let mentioned : is_mentioned (library c.args.lib.now).rules (primitive c.args.prim.now) (get_or c.listed-number-items.result.now c.loop-number.number-index 0) ≡ true =
    sym c.is_mentioned.ensures ∙ c.if-not-is_mentioned.false in
    let grown : map task_of c.loop-number.tasks.items ++ option_to_list (option_map task_of c.in_ok-task.field-0.task) ≡ map task_of c.add.new.tasks.items =
    tasks_more c.loop-number.tasks.items c.in_ok-task.field-0.task ∙ sym (ap (map task_of) c.in_ok-add.ensures) in
    record {
      all = c.loop-number.invariant.all;
      heard = subst (HaveHeard (library c.args.lib.now) c.args.time (primitive c.args.prim.now)
          (mentioned_among (library c.args.lib.now) (primitive c.args.prim.now) ns (c.loop-number.number-index + 1)) c.args.view.now c.notify.new.view (changes (entries c.in_ok-steps.steps))) grown
          (subst (λ steps. HaveHeard (library c.args.lib.now) c.args.time (primitive c.args.prim.now)
          (mentioned_among (library c.args.lib.now) (primitive c.args.prim.now) ns (c.loop-number.number-index + 1)) c.args.view.now c.notify.new.view
          steps (map task_of c.loop-number.tasks.items ++ option_to_list (option_map task_of c.in_ok-task.field-0.task))) (sym c.in_ok-steps.ensures)
          (told_listed (library c.args.lib.now) (primitive c.args.prim.now) ns c.args.time c.loop-number.invariant.all c.loop-number.number-index n c.loop-number-test.true refl mentioned
          c.loop-number.invariant.heard c.in_ok-task.ensures.notified));
      shared = c.notify.ensures.shared;
      depth = subst (λ ts. AreAt c.args.depth (map task_of ts)) (sym c.in_ok-add.ensures)
          (depth_more c.args.depth c.loop-number.tasks.items c.in_ok-task.field-0.task c.loop-number.invariant.depth c.in_ok-task.ensures.depth);
      reads = adds_mentioned (library c.args.lib.now) (primitive c.args.prim.now) n mentioned c.loop-number.invariant.reads c.notify.ensures.reads;
      only = only_reads_then c.args.view.now c.loop-number.view c.notify.new.view c.loop-number.invariant.only c.notify.ensures.only;
      goes_on = GoesOn-then c.loop-number.invariant.goes_on c.notify.ensures.goes_on;
    }

pub returns-clause-heard : goal.returns-clause-heard
returns-clause-heard c =
    let past : length c.listed-number-items.result.now ≤ c.loop-number.number-index = omega arith in
    all_listed (library c.args.lib.now) (primitive c.args.prim.now) c.listed-number-items.result.now c.args.time c.loop-number.invariant.all c.loop-number.number-index
    past c.loop-number.invariant.heard c.in_ok-write.ensures.ok

-- where memory runs out
pub returns-in_err-task-clause-err : goal.returns-in_err-task-clause-err
returns-in_err-task-clause-err c =
    on_err c.from_residual.result _ (reads_alone (only_reads_then c.args.view.now c.loop-number.view c.notify.new.view c.loop-number.invariant.only c.notify.ensures.only))

pub returns-in_err-steps-clause-err : goal.returns-in_err-steps-clause-err
returns-in_err-steps-clause-err c =
    on_err c.from_residual-in_err-steps.result _ (reads_alone (only_reads_then c.args.view.now c.loop-number.view c.notify.new.view c.loop-number.invariant.only c.notify.ensures.only))

pub returns-in_err-add-clause-err : goal.returns-in_err-add-clause-err
returns-in_err-add-clause-err c =
    on_err c.from_residual-in_err-add.result _ (reads_alone (only_reads_then c.args.view.now c.loop-number.view c.notify.new.view c.loop-number.invariant.only c.notify.ensures.only))

pub returns-in_err-write-clause-err : goal.returns-in_err-write-clause-err
returns-in_err-write-clause-err c = on_err c.from_residual-in_err-write.result _ (reads_then_same c.loop-number.invariant.only c.in_err-write.ensures.err)

pub returns-clause-writes : goal.returns-clause-writes
returns-clause-writes c = steps_written c.loop-number.invariant.only c.loop-number.invariant.heard.are_steps c.in_ok-write.ensures.ok

pub returns-in_err-task-clause-reads : goal.returns-in_err-task-clause-reads
returns-in_err-task-clause-reads c =
    adds_mentioned (library c.args.lib.now) (primitive c.args.prim.now) (get_or c.listed-number-items.result.now c.loop-number.number-index 0)
    (sym c.is_mentioned.ensures ∙ c.if-not-is_mentioned.false) c.loop-number.invariant.reads c.notify.ensures.reads

pub returns-in_err-steps-clause-reads : goal.returns-in_err-steps-clause-reads
returns-in_err-steps-clause-reads c =
    adds_mentioned (library c.args.lib.now) (primitive c.args.prim.now) (get_or c.listed-number-items.result.now c.loop-number.number-index 0)
    (sym c.is_mentioned.ensures ∙ c.if-not-is_mentioned.false) c.loop-number.invariant.reads c.notify.ensures.reads

pub returns-in_err-add-clause-reads : goal.returns-in_err-add-clause-reads
returns-in_err-add-clause-reads c =
    adds_mentioned (library c.args.lib.now) (primitive c.args.prim.now) (get_or c.listed-number-items.result.now c.loop-number.number-index 0)
    (sym c.is_mentioned.ensures ∙ c.if-not-is_mentioned.false) c.loop-number.invariant.reads c.notify.ensures.reads
