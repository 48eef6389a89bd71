use Rattle.hp_fire.proofs.speculate.pending.Pending.receive_from.Goals as goal

pub returns-in_default-clause-channel : goal.returns-in_default-clause-channel
returns-in_default-clause-channel c = λ library is. c.receive.ensures.channel library (c.loop.invariant.0 library is)

pub loop-preserved : goal.loop-preserved
loop-preserved c = (
  λ library is. c.receive.ensures.channel library (c.loop.invariant.0 library is),
  λ library is all. c.put.ensures.sound library (c.loop.invariant.1 library is all) (c.in-Some.ensures.sound library (c.loop.invariant.0 library is)),
)
