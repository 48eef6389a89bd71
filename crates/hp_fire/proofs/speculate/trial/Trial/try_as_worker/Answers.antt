use Rattle.std.proofs.Common.{ap, ◌∙◌, subst}
use Rattle.std.specs.Prelude.{ℕ}
use Rattle.rtrb.specs.Ring.{sent}
use Rattle.hp_model.specs.Soundness.{IsSound}
use Rattle.hp_rule.specs.Mapped.{library}
use Rattle.hp_attempt.specs.Mapped.{attempt}
use Rattle.hp_store.specs.Stack.{Stack}
use Rattle.hp_fire.specs.declared.speculate.wave.Wave.{Wave}
use Rattle.hp_fire.specs.Starts.{IsTriedFrom}
use Rattle.hp_fire.proofs.OneOrigin.{only_one, only_start}
use Rattle.hp_fire.proofs.Posted.{tried_from}
use Rattle.hp_fire.proofs.speculate.trial.Trial.try_as_worker.Goals as goal

pub hand_over-requires-clause-sound : goal.hand_over-requires-clause-sound
hand_over-requires-clause-sound g c = λ l is.
    subst (λ k. IsSound k (attempt c.in-Some.tried.attempt)) (only_one (library c.args.self.now.lib.now) l (sent c.loop.sender) c.loop.invariant.1 is) c.in-Some.ensures.sound

pub hand_over-requires-clause-tried : goal.hand_over-requires-clause-tried
hand_over-requires-clause-tried g c = λ s n is.
    let wave = c.args.wave.now in
    let same = only_start wave.snapshot s wave.done n (sent c.loop.sender) c.loop.invariant.2 is in
    let tried = subst (λ (w : Wave). IsTriedFrom w.snapshot w.done c.in-Some.tried) c.loop.invariant.4
    (tried_from c.loop.worker.wave.now c.loop.worker.pass c.next_attempt.new.worker.pass c.in-Some.tried c.in-Some.ensures.tried) in
    subst (λ (m : ℕ). IsTriedFrom s m c.in-Some.tried) same.1 (subst (λ (t : Stack). IsTriedFrom t wave.done c.in-Some.tried) same.0 tried)

pub loop-preserved : goal.loop-preserved
loop-preserved g c =
    let lib = library c.args.self.now.lib.now in
    let so_far = c.loop.invariant in (
      c.hand_over.ensures.found lib so_far.1 so_far.0,
      c.hand_over.ensures.channel lib so_far.1,
      c.hand_over.ensures.channel_from c.args.wave.now.snapshot c.args.wave.now.done so_far.2,
      c.next_attempt.ensures.worker,
      ap (λ w. w.now) c.next_attempt.ensures.wave ∙ so_far.4,
    )
