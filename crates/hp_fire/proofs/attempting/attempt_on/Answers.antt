use Rattle.std.proofs.Common.{ap}
use Rattle.hp_rule.specs.Mapped.{task}
use Rattle.hp_store.specs.Changes.{changes}
use Rattle.hp_attempt.specs.Mapped.{firing}
use Rattle.hp_fire.proofs.Attempts.{attempt_sound}
use Rattle.hp_fire.proofs.attempting.attempt_on.Goals as goal

pub returns-clause-sound : goal.returns-clause-sound
returns-clause-sound c = λ library first none fires.
    attempt_sound library (task c.args.task.now) first c.args.view (firing c.args.outcome) none fires _ _ _ c.in_ok-copy.ensures.cases c.into_parts-reads.ensures.reads
    (ap changes c.into_parts-reads.ensures.layer)

pub returns-clause-task : goal.returns-clause-task
returns-clause-task c = c.in_ok-copy.ensures.cases
