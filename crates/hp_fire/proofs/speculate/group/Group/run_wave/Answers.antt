use Rattle.std.proofs.Common.{rules, refl, ap, subst}
use Rattle.std.proofs.lemmas.Result.{IfOk-weaker}
use Rattle.hp_model.specs.Rules.{Library}
use Rattle.hp_rule.specs.Mapped.{library}
use Rattle.hp_fire.specs.declared.speculate.progress.Progress.{Progress}
use Rattle.hp_fire.specs.Groups.{ComesInWave}
use Rattle.hp_fire.specs.Trying.{HasTried}
use Rattle.hp_fire.proofs.Coming.{comes_then, comes_put}
use Rattle.hp_fire.proofs.speculate.group.Group.run_wave.Goals as goal

pub returns-clause-comes : goal.returns-clause-comes
returns-clause-comes g c =
    let lib = library c.args.self.now.engine.lib.now in
    let tried = c.try_all-found.new.progress in
    let has : HasTried lib c.args.wave.now c.args.view.now c.try_all-found.new.view c.args.progress.now tried c.try_all-found.new.receivers c.try_all-found.result =
    subst (λ (l : Library). HasTried l c.args.wave.now c.args.view.now c.try_all-found.new.view c.args.progress.now c.try_all-found.new.progress c.try_all-found.new.receivers c.try_all-found.result)
    (ap (λ r. library r.now) c.counting-engine.ensures.lib) c.try_all-found.ensures in
    let came : ComesInWave lib c.args.wave.now c.args.view.now c.args.progress.now c.try_all-found.new.view c.try_all-found.new.progress = search rules in
    let sound = c.put_returned.ensures lib came.sound has.found_sound in
    let put : Progress = record c.try_all-found.new.progress { pending = c.put_returned.new.self } in
    IfOk-weaker c.accept_sent.result _ _ (λ _ comes.
    comes_then c.args.progress.now tried c.accept_sent.new.self came (comes_then tried put c.accept_sent.new.self (comes_put c.try_all-found.new.view tried put refl sound)
    (comes lib has.channels_are sound)))
    c.accept_sent.ensures.comes
