use Rattle.std.proofs.Common.{ap, map}
use Rattle.hp_view.specs.Mapped.{read}
use Rattle.hp_attempt.proofs.Taking.{record_more, covers_all, adds_next, into_rest}
use Rattle.hp_attempt.proofs.settling.record.Goals as goal

pub loop-seen-preserved : goal.loop-seen-preserved
loop-seen-preserved c =
    let r = read (c.in-Some.seen.now, c.in-Some.found.now) in
    let steps = ap (map read) c.in-Some.ensures.steps in
    let i = c.loop-seen.invariant in
    let step = record_more r steps i.only i.on i.left i.covers c.read_again.ensures.only c.read_again.ensures.goes_on c.in_ok-read_again.ensures.again
    in record {
      only = step.only;
      on = step.on;
      adds = adds_next c.read_again.new.view c.args.reads.now r steps i.only i.adds i.into c.read_again.ensures.reads;
      into = into_rest c.args.view.now c.args.reads.now r steps i.into;
      left = step.left;
      covers = step.covers;
    }

pub returns-clause-covers : goal.returns-clause-covers
returns-clause-covers c = covers_all (ap (map read) c.in-None.ensures.steps.0) c.loop-seen.invariant.covers

pub returns-in_err-read_again-clause-reads : goal.returns-in_err-read_again-clause-reads
returns-in_err-read_again-clause-reads c =
    let i = c.loop-seen.invariant in
    adds_next c.read_again.new.view c.args.reads.now (read (c.in-Some.seen.now, c.in-Some.found.now)) (ap (map read) c.in-Some.ensures.steps) i.only i.adds i.into c.read_again.ensures.reads
