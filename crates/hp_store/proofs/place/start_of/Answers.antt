use Rattle.std.proofs.Common.{ap, ◌∙◌, arith}
use Rattle.hp_store.specs.Places.{start}
use Rattle.hp_store.proofs.Placed.{start_is}
use Rattle.hp_store.proofs.place.start_of.Goals as goal

pub returns : goal.returns
returns c = start_is 32 c.loop-i.first c.as_bytes-bytes.result.now c.loop-i.invariant.has (λ k within. c.loop-i.invariant.so_far k (omega (arith, within, c.loop-i-test.false)))
    ∙ ap (start 32) c.as_bytes-bytes.ensures.value
