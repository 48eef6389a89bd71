use Rattle.std.proofs.Common.{refl, ◌∙◌}
use Rattle.std.proofs.lemmas.Result.{IfOk-weaker}
use Rattle.hp_rule.specs.Mapped.{library}
use Rattle.hp_fire.specs.declared.speculate.progress.Progress.{Progress}
use Rattle.hp_fire.proofs.Coming.{comes_then, comes_put}
use Rattle.hp_fire.proofs.speculate.trial.Trial.accept_each.Goals as goal

pub returns-in_err-accept_sent-clause-channels : goal.returns-in_err-accept_sent-clause-channels
returns-in_err-accept_sent-clause-channels g c = c.accept_sent.ensures.channels (library c.args.self.now.lib.now) c.loop.invariant.1

pub returns-clause-channels : goal.returns-clause-channels
returns-clause-channels g c = c.accept_sent-2.ensures.channels (library c.args.self.now.lib.now) c.loop.invariant.1

pub returns-clause-comes : goal.returns-clause-comes
returns-clause-comes g c =
    let so_far = c.loop.invariant in
    IfOk-weaker c.accept_sent-2.result _ _ (λ _ comes. comes_then c.args.progress.now c.loop.progress c.accept_sent-2.new.self so_far.0
    (comes (library c.args.self.now.lib.now) so_far.1 so_far.0.sound)) c.accept_sent-2.ensures.comes

pub loop-preserved : goal.loop-preserved
loop-preserved g c =
    let lib = library c.args.self.now.lib.now in
    let so_far = c.loop.invariant in
    let sound = c.put.ensures.sound lib so_far.0.sound c.in-Some.ensures.sound in
    let put : Progress = record c.loop.progress { pending = c.put.new.self } in
    let accepted = c.in_ok-accept_sent.ensures.comes lib so_far.1 sound in (
      comes_then c.args.progress.now c.loop.progress c.accept_sent.new.self so_far.0
          (comes_then c.loop.progress put c.accept_sent.new.self (comes_put c.loop.view c.loop.progress put refl sound) accepted),
      c.accept_sent.ensures.channels lib so_far.1,
      c.note_veto.ensures.worker,
      c.note_veto.ensures.wave ∙ c.next_attempt.ensures.wave ∙ so_far.3,
      c.accept_sent.ensures.waves ∙ so_far.4,
    )
