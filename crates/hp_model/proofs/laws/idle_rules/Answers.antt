use Rattle.hp_model.proofs.Idle.{others_are_idle, never_too_deep_by_idle}
use Rattle.hp_model.proofs.laws.idle_rules.Goals as goal

pub returns-clause-idle : goal.returns-clause-idle
returns-clause-idle c = others_are_idle

pub returns-clause-depth : goal.returns-clause-depth
returns-clause-depth c = never_too_deep_by_idle
