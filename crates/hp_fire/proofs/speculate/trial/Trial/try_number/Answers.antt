use Rattle.hp_fire.proofs.Posted.{only_same}
use Rattle.hp_fire.proofs.speculate.trial.Trial.try_number.Goals as goal

pub returns-then-has_given_up-clause-knows : goal.returns-then-has_given_up-clause-knows
returns-then-has_given_up-clause-knows g c = only_same c.args.worker.now.pass
