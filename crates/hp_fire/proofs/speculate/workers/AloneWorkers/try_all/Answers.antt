use Rattle.std.proofs.Common.{rules, refl}
use Rattle.hp_fire.proofs.Coming.{comes_same}
use Rattle.hp_fire.proofs.speculate.workers.AloneWorkers.try_all.Goals as goal

pub returns : goal.returns
returns c = record {
  found_sound = search rules;
  comes = comes_same c.args._view.now c.args._progress.now c.requires.may.sound;
  channels_are = c.requires.may.channels_are;
  waves = refl;
}
