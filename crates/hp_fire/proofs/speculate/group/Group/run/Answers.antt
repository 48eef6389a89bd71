use Rattle.std.proofs.Common.{arith, sym, ◌∙◌, subst, ◌≤◌, length, map}
use Rattle.std.proofs.lemmas.List.{length-map}
use Rattle.hp_model.specs.Firing.{siblings, fire_task}
use Rattle.std.specs.Prelude.{option_map}
use Rattle.hp_value.specs.Mapped.{veto}
use Rattle.hp_rule.specs.Mapped.{library, task}
use Rattle.hp_fire.specs.declared.course.GroupOutcome.{GroupOutcome}
use Rattle.hp_fire.specs.Mapped.{group}
use Rattle.hp_fire.specs.Runs.{RunsGroup}
use Rattle.hp_fire.specs.declared.speculate.settled.Settled.{Settled}
use Rattle.hp_fire.specs.Groups.{IsSoFar, IsCounted}
use Rattle.hp_fire.proofs.Helping.{unmapped_none, false_true, not_less, so_far_ends}
use Rattle.hp_fire.proofs.speculate.group.Group.run.Goals as goal

pub returns-clause-runs : goal.returns-clause-runs
returns-clause-runs g c =
    subst (λ (o : GroupOutcome). RunsGroup (library c.args.self.now.engine.lib.now) (siblings (fire_task (library c.args.self.now.engine.lib.now)) c.args.self.now.stop_at_veto
    (map task c.args.self.now.tasks.now)) c.args.view.now c.loop-view.view (group o)) (sym c.into_outcome.ensures)
    (so_far_ends c.loop-view.progress.settled.outcomes.items (option_map veto c.loop-view.progress.settled.end) c.loop-view.invariant.2
    (λ none. subst (λ n. n ≤ length c.loop-view.progress.settled.outcomes.items) (sym (length-map c.args.self.now.tasks.now task))
    (not_less (length c.loop-view.progress.settled.outcomes.items) (length c.args.self.now.tasks.now)
    (λ less. false_true (sym c.loop-view-test.false ∙ c.goes_on-in-loop-view.ensures.1 (unmapped_none veto c.loop-view.progress.settled.end none, less))))))

pub loop-view-init : goal.loop-view-init
loop-view-init g c =
    let b = c.after-progress.ensures.begins in
    let counted : IsCounted c.after-progress.result = (omega (arith, b.1), omega (arith, b.1, b.2)) in (
      counted,
      c.after-progress.ensures.sound (library c.args.self.now.engine.lib.now),
      subst
          (λ (s : Settled). IsSoFar (library c.args.self.now.engine.lib.now) c.args.self.now.stop_at_veto (map task c.args.self.now.tasks.now) c.args.view.now
          c.fire_before_workers.new.view s.outcomes.items (option_map veto s.end)) (sym b.0) c.in_ok-settled.ensures.so_far,
    )

pub loop-view-preserved : goal.loop-view-preserved
loop-view-preserved g c = (c.in_ok-advance.ensures.counted, c.in_ok-advance.ensures.sound, c.in_ok-advance.ensures.so_far c.args.view.now c.loop-view.invariant.2)

pub returns-then-not-goes_on-clause-runs : goal.returns-then-not-goes_on-clause-runs
returns-then-not-goes_on-clause-runs g c =
    let tasks = c.args.self.now.tasks.now in
    let all = c.in_ok-settled.settled.outcomes.items in
    subst (λ (o : GroupOutcome). RunsGroup (library c.args.self.now.engine.lib.now) (siblings (fire_task (library c.args.self.now.engine.lib.now)) c.args.self.now.stop_at_veto (map task tasks))
    c.args.view.now c.fire_before_workers.new.view (group o)) (sym c.of_owner.ensures)
    (so_far_ends all (option_map veto c.in_ok-settled.settled.end) c.in_ok-settled.ensures.so_far
    (λ none. subst (λ n. n ≤ length all) (sym (length-map tasks task))
    (not_less (length all) (length tasks) (λ less. false_true (sym c.if-not-goes_on.true ∙ c.goes_on.ensures.1 (unmapped_none veto c.in_ok-settled.settled.end none, less))))))
