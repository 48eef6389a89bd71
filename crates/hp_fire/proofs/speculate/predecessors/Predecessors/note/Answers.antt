use Rattle.std.proofs.Common.{arith, ◌<◌, length}
use Rattle.hp_store.specs.Changes.{changes}
use Rattle.hp_fire.specs.Starts.{layer_changes}
use Rattle.hp_fire.proofs.Posted.{merged_looked, remembers_same, remembers_then, remembers_looked}
use Rattle.hp_fire.proofs.speculate.predecessors.Predecessors.note.Goals as goal

pub returns-then-are_in_conflict-clause-merged : goal.returns-then-are_in_conflict-clause-merged
returns-then-are_in_conflict-clause-merged c =
    let i = c.loop-predecessor.predecessor in
    let inside : i < length c.args.wave.now.board.cells = omega (arith, c.requires.number) in
    merged_looked layer_changes c.args.wave.now.board.cells c.loop-predecessor.pass c.look-after.result.1 i c.loop-predecessor.self.count (changes c.loop-predecessor.self.layer.value)
    c.look-after.result.0 c.loop-predecessor.invariant.0 inside c.look-after.ensures.none c.look-after.ensures.some c.loop-predecessor.invariant.1

pub returns-then-are_in_conflict-clause-knows : goal.returns-then-are_in_conflict-clause-knows
returns-then-are_in_conflict-clause-knows c =
    let i = c.loop-predecessor.predecessor in
    let inside : i < length c.args.wave.now.board.cells = omega (arith, c.requires.number) in
    remembers_then c.args.pass c.loop-predecessor.pass c.look-after.result.1 c.loop-predecessor.invariant.2
    (remembers_looked c.args.wave.now.board.cells c.loop-predecessor.pass c.look-after.result.1 i c.look-after.result.0 c.loop-predecessor.invariant.0 inside
    c.look-after.ensures.none c.look-after.ensures.some)

pub loop-predecessor-init : goal.loop-predecessor-init
loop-predecessor-init c = (c.requires.pass, c.requires.merged, remembers_same c.args.pass)

pub loop-predecessor-preserved : goal.loop-predecessor-preserved
loop-predecessor-preserved c =
    let i = c.loop-predecessor.predecessor in
    let inside : i < length c.args.wave.now.board.cells = omega (arith, c.requires.number) in (
      c.look-after.ensures.pass,
      merged_looked layer_changes c.args.wave.now.board.cells c.loop-predecessor.pass c.look-after.result.1 i c.loop-predecessor.self.count (changes c.loop-predecessor.self.layer.value)
          c.look-after.result.0 c.loop-predecessor.invariant.0 inside c.look-after.ensures.none c.look-after.ensures.some c.loop-predecessor.invariant.1,
      remembers_then c.args.pass c.loop-predecessor.pass c.look-after.result.1 c.loop-predecessor.invariant.2
          (remembers_looked c.args.wave.now.board.cells c.loop-predecessor.pass c.look-after.result.1 i c.look-after.result.0 c.loop-predecessor.invariant.0 inside
          c.look-after.ensures.none c.look-after.ensures.some),
    )
