use Rattle.std.proofs.Common.{refl}
use Rattle.hp_attempt.specs.Mapped.{attempt}
use Rattle.hp_rule.specs.Mapped.{task}
use Rattle.hp_model.specs.States.{ordered_states}
use Rattle.hp_model.proofs.ForStates.{sound_as, faithful_of}
use Rattle.hp_attempt.proofs.Taking.{stands_settled, taken_written, taken_adds, forgotten, same_goes_on, same_restores}
use Rattle.hp_attempt.proofs.settling.settle.Goals as goal

pub returns-in-Ok-clause-faithful : goal.returns-in-Ok-clause-faithful
returns-in-Ok-clause-faithful c = λ accepted library sound.
    let taken = c.in-Ok.ensures.ok in
    let for = (c.may_stand.ensures.0 c.if-not-may_stand.false).0 in
    faithful_of
    (stands_settled (attempt c.args.attempt.now) (task c.args.task.now) c.args.attempt.now.layer.value for refl taken.only taken.covers taken.takes
    ordered_states library (sound_as sound))

pub returns-in-Ok-clause-for_states : goal.returns-in-Ok-clause-for_states
returns-in-Ok-clause-for_states c = λ accepted.
    let taken = c.in-Ok.ensures.ok in
    let for = (c.may_stand.ensures.0 c.if-not-may_stand.false).0 in
    record {
      faithful = stands_settled (attempt c.args.attempt.now) (task c.args.task.now) c.args.attempt.now.layer.value for refl taken.only taken.covers taken.takes;
    }

pub returns-in-Ok-clause-takes : goal.returns-in-Ok-clause-takes
returns-in-Ok-clause-takes c = λ accepted. taken_written c.in-Ok.ensures.ok

pub returns-in-Ok-clause-reads : goal.returns-in-Ok-clause-reads
returns-in-Ok-clause-reads c = λ accepted. taken_adds c.in-Ok.ensures.ok

pub returns-in-Ok-clause-reads_held : goal.returns-in-Ok-clause-reads_held
returns-in-Ok-clause-reads_held c = λ accepted. c.in-Ok.ensures.ok.reads_held

pub returns-in-Err-clause-goes_on : goal.returns-in-Err-clause-goes_on
returns-in-Err-clause-goes_on c = same_goes_on (forgotten c.read_count-before.result c.in-Err.ensures.err c.read_count-before.ensures c.forget_reads.ensures)

pub returns-in-Err-clause-unchanged : goal.returns-in-Err-clause-unchanged
returns-in-Err-clause-unchanged c = forgotten c.read_count-before.result c.in-Err.ensures.err c.read_count-before.ensures c.forget_reads.ensures

pub returns-in-Err-clause-err : goal.returns-in-Err-clause-err
returns-in-Err-clause-err c = same_restores (forgotten c.read_count-before.result c.in-Err.ensures.err c.read_count-before.ensures c.forget_reads.ensures)
