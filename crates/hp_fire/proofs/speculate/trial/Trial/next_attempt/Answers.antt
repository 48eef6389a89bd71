use Rattle.std.proofs.Common.{refl, sym, ap, ◌∙◌, subst}
use Rattle.hp_fire.specs.declared.speculate.wave.Wave.{Wave}
use Rattle.hp_fire.specs.Starts.{OnlyLearns, IsTriedBy}
use Rattle.hp_fire.proofs.Posted.{only_same, only_then, tried_since}
use Rattle.hp_fire.proofs.speculate.trial.Trial.next_attempt.Goals as goal

pub loop-init : goal.loop-init
loop-init g c = (c.requires.worker, refl, only_same c.args.worker.now.pass)

pub loop-preserved : goal.loop-preserved
loop-preserved g c =
    let drawn = subst (λ p. OnlyLearns c.args.worker.now.pass p) (sym c.draw.ensures.pass) c.loop.invariant.2 in (
      c.try_number.ensures.worker,
      c.try_number.ensures.wave ∙ c.draw.ensures.wave ∙ c.loop.invariant.1,
      only_then c.args.worker.now.pass c.draw.new.self.pass c.try_number.new.worker.pass drawn c.try_number.ensures.knows,
    )

pub returns-in-Some-clause-tried : goal.returns-in-Some-clause-tried
returns-in-Some-clause-tried g c =
    let drawn = subst (λ p. OnlyLearns c.args.worker.now.pass p) (sym c.draw.ensures.pass) c.loop.invariant.2 in
    subst (λ (w : Wave). IsTriedBy w c.args.worker.now.pass c.try_number.new.worker.pass c.in-Some.tried) (ap (λ w. w.now) (c.draw.ensures.wave ∙ c.loop.invariant.1))
    (tried_since c.draw.new.self.wave.now c.args.worker.now.pass c.draw.new.self.pass c.try_number.new.worker.pass c.in-Some.tried drawn c.in-Some.ensures.tried)
