use Rattle.std.proofs.Common.{refl, sym, ap, subst, Bool, List, map}
use Rattle.std.proofs.lemmas.Result.{IfOk-weaker}
use Rattle.hp_rule.specs.declared.task.Task.{Task as RustTask}
use Rattle.hp_attempt.specs.Fronts.{AreSound}
use Rattle.hp_fire.specs.declared.speculate.counts.Counts.{Counts}
use Rattle.hp_fire.specs.declared.speculate.progress.Progress.{Progress}
use Rattle.hp_rule.specs.Mapped.{library, task}
use Rattle.hp_fire.specs.Groups.{Comes}
use Rattle.hp_fire.proofs.Coming.{wave_none, wave_ran}
use Rattle.hp_fire.proofs.speculate.group.Group.settle_by_wave.Goals as goal

pub returns-then-not-is_wave_due-clause-comes : goal.returns-then-not-is_wave_due-clause-comes
returns-then-not-is_wave_due-clause-comes g c = wave_none c.args.progress.now c.args.progress.now refl refl c.requires.going.0 c.requires.counted c.requires.sound

pub returns-in_default-clause-comes : goal.returns-in_default-clause-comes
returns-in_default-clause-comes g c =
    wave_none c.args.progress.now _ c.prepare.ensures.view refl c.requires.going.0 c.requires.counted (c.prepare.ensures.sound (library c.args.self.now.engine.lib.now) c.requires.sound)

pub returns-in_default-jobs_for-clause-comes : goal.returns-in_default-jobs_for-clause-comes
returns-in_default-jobs_for-clause-comes g c =
    wave_none c.args.progress.now _ c.prepare.ensures.view refl c.requires.going.0 c.requires.counted (c.prepare.ensures.sound (library c.args.self.now.engine.lib.now) c.requires.sound)

pub run_wave-requires-clause-sound : goal.run_wave-requires-clause-sound
run_wave-requires-clause-sound g c =
    let lib = library c.args.self.now.engine.lib.now in
    subst (λ (p : Progress). AreSound lib p.pending.attempts.items) (sym c.begin_wave.ensures.same) (c.prepare.ensures.sound lib c.requires.sound)

pub returns-clause-comes : goal.returns-clause-comes
returns-clause-comes g c =
    let lib = library c.args.self.now.engine.lib.now in
    let begun = c.begin_wave.new.self in
    let same = c.begin_wave.ensures.same in
    let counts = c.begin_wave.ensures.counts in
    IfOk-weaker c.run_wave.result _ _ (λ _ ran.
    let came : Comes lib c.args.self.now.stop_at_veto (map task c.args.self.now.tasks.now) c.prepare.new.view c.begin_wave.new.self c.run_wave.new.view c.run_wave.new.progress =
    subst (λ (b : Bool). Comes lib b (map task c.args.self.now.tasks.now) c.prepare.new.view c.begin_wave.new.self c.run_wave.new.view c.run_wave.new.progress) c.in-Ok.ensures.wave.2
    (subst (λ (ts : List RustTask). Comes lib c.in-Ok.start.wave.stop_at_veto (map task ts) c.prepare.new.view c.begin_wave.new.self c.run_wave.new.view c.run_wave.new.progress)
    c.in-Ok.ensures.wave.1 ran) in
    wave_ran c.args.progress.now begun c.run_wave.new.progress c.prepare.ensures.view (ap (λ (p : Progress). p.settled) same)
    (ap (λ (x : Counts). x.accepted) counts, ap (λ (x : Counts). x.waves) counts) c.begin_wave.ensures.retried c.requires.going.0 c.requires.counted came) c.run_wave.ensures.comes
