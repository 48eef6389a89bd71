use Rattle.std.proofs.Common.{rules, arith, ◌≡◌, sym, ap, ◌∙◌, subst, ◌<◌, [], ◌∷◌, drop, length, length-append, map}
use Rattle.std.proofs.lemmas.List.{drop-map}
use Rattle.std.specs.Prelude.{option_map}
use Rattle.hp_value.specs.Mapped.{veto}
use Rattle.hp_rule.specs.Mapped.{library, task}
use Rattle.hp_model.specs.Firing.{fire_task}
use Rattle.hp_attempt.specs.Mapped.{firing}
use Rattle.hp_ops.proofs.Worlds.{split_at}
use Rattle.hp_fire.specs.Runs.{RunsFiring}
use Rattle.hp_fire.proofs.Coming.{counted_ahead, counted_run}
use Rattle.hp_fire.proofs.Helping.{so_far_ran}
use Rattle.hp_fire.proofs.speculate.group.Group.advance.Goals as goal

pub returns-then-len-done : goal.returns-then-len-done
returns-then-len-done g c =
    let by_wave = c.in_ok-settle_by_wave.ensures.comes in
    let more : length c.args.progress.now.settled.outcomes.items < length c.settle_by_wave.new.progress.settled.outcomes.items = search rules in
    record { more = more; counted = by_wave.counted more; sound = by_wave.sound; so_far = by_wave.so_far }

pub returns : goal.returns
returns g c =
    let lib = library c.args.self.now.engine.lib.now in
    let tasks = c.args.self.now.tasks.now in
    let by_wave = c.in_ok-settle_by_wave.ensures.comes in
    let begun = c.args.progress.now in
    let waved = c.settle_by_wave.new.progress in
    let added = c.add.new.self in
    let at : c.len-done.result ≡ length c.args.progress.now.settled.outcomes.items = search rules in
    let same : length c.settle_by_wave.new.progress.settled.outcomes.items ≡ length c.args.progress.now.settled.outcomes.items = search rules in
    let here = ap (λ n. drop n (map task tasks)) (same ∙ sym at) ∙ drop-map task c.len-done.result tasks
    ∙ ap (map task) (split_at tasks c.len-done.result c.index-self-done.result (omega (arith, at, c.requires.going.1)) c.index-self-done.is) in
    let longer = ap length c.in_ok-add.ensures.outcomes ∙ length-append waved.settled.outcomes.items (c.in_ok-outcome.outcome ∷ []) in
    let sound = c.in_ok-add.ensures.sound lib by_wave.sound in
    let came = c.in_ok-settle.ensures.comes lib sound in
    let ran : RunsFiring lib (λ S. fire_task lib S (task c.index-self-done.result)) c.settle_by_wave.new.view c.fire_counted.new.view (firing c.in_ok-outcome.outcome) =
    subst (λ t. RunsFiring lib (λ S. fire_task lib S (task t)) c.settle_by_wave.new.view c.fire_counted.new.view (firing c.in_ok-outcome.outcome))
    (sym c.index-self-done.is) c.in_ok-outcome.ensures in record {
      more = omega (arith, same, longer, came.ahead.longer);
      counted = counted_ahead added _ (counted_run waved added by_wave.owes c.in_ok-add.ensures.counts longer) came.ahead;
      sound = came.sound;
      so_far = λ first so_far. came.so_far first
          (so_far_ran waved.settled.outcomes.items added.settled.outcomes.items (option_map veto waved.settled.end) (option_map veto added.settled.end)
          (task c.index-self-done.result) _ c.in_ok-outcome.outcome (ap (option_map veto) (by_wave.none same)) here
          c.in_ok-add.ensures.outcomes c.in_ok-add.ensures.end (by_wave.so_far first so_far) ran);
    }
