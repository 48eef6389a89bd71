use Rattle.std.proofs.Common.{arith, rules, ap, ◌∙◌, ◌≡◌, ◌<◌, subst, length}
use Rattle.std.specs.Option.{option_or}
use Rattle.hp_board.specs.Passes.{Learns, known_at}
use Rattle.hp_store.specs.Changes.{changes}
use Rattle.hp_store.specs.Stack.{cells_in}
use Rattle.hp_fire.specs.Starts.{layer_changes}
use Rattle.hp_fire.proofs.Posted.{AreFound, found_starts, found_nothing, found_layer, found_cells, remembers_same, remembers_then, remembers_learns}
use Rattle.hp_fire.proofs.speculate.predecessors.Predecessors.start_of.Goals as goal

pub loop-predecessor-init : goal.loop-predecessor-init
loop-predecessor-init c =
    let are = c.in_ok-keep_below.ensures.merged c.args.pass c.requires.merged in (
      c.requires.pass,
      found_starts layer_changes c.args.pass c.keep_below.new.self.count (changes c.keep_below.new.self.layer.value) (changes c.new-later.result)
          (λ cell. ap (λ l. changes l cell) c.new-later.ensures) are,
      c.in_ok-keep_below.ensures.below,
      remembers_same c.args.pass,
    )

pub loop-predecessor-preserved-in_default : goal.loop-predecessor-preserved-in_default
loop-predecessor-preserved-in_default c =
    let nothing : (known_at c.loop-predecessor.pass c.loop-predecessor.predecessor ≡ _) × (c.look-after.result.1 ≡ c.loop-predecessor.pass) = search rules in (
      c.look-after.ensures.pass,
      found_nothing layer_changes c.loop-predecessor.pass c.look-after.result.1 c.loop-predecessor.predecessor _ c.loop-predecessor.self.count
          (changes c.loop-predecessor.self.layer.value) (changes c.loop-predecessor.later) (omega arith) nothing c.loop-predecessor.invariant.1,
      omega arith,
      remembers_then c.args.pass c.loop-predecessor.pass c.look-after.result.1 c.loop-predecessor.invariant.3 (λ j was. ap (λ l. known_at l j) nothing.1),
    )

pub loop-predecessor-preserved : goal.loop-predecessor-preserved
loop-predecessor-preserved c =
    let i = c.loop-predecessor.predecessor in
    let old = c.loop-predecessor.self in
    let now = c.take_in_next.new.self in
    let inside : i < length c.args.wave.now.board.cells = omega (arith, c.requires.number) in
    let layer : c.deref.result.now ≡ c.in-Some.layer.now.value = search rules in
    let learns : Learns c.loop-predecessor.pass i c.in-Some.layer.now c.look-after.result.1 = search rules in (
      c.look-after.ensures.pass,
      found_layer layer_changes c.args.wave.now.board.cells c.loop-predecessor.pass c.look-after.result.1 i _ c.in-Some.layer.now old.count now.count
          (changes old.layer.value) (changes now.layer.value) (changes c.loop-predecessor.later) (changes c.take_in_next.new.later)
          c.loop-predecessor.invariant.0 inside (omega arith) learns c.loop-predecessor.invariant.1
          (λ e cell. subst (λ l. changes now.layer.value cell ≡ option_or (changes l cell) (changes old.layer.value cell)) layer (c.in_ok-take_in_next.ensures.next e cell))
          (λ e. let after = c.in_ok-take_in_next.ensures.after_next e in (after.0, λ cell. ap (λ l. changes l cell) after.1))
          (λ o cell. subst (λ l. changes c.take_in_next.new.later cell ≡ option_or (changes l cell) (changes c.loop-predecessor.later cell)) layer
          (c.in_ok-take_in_next.ensures.later o cell))
          (λ o. let after = c.take_in_next.ensures.after_later o in (ap (λ p. p.count) after, λ cell. ap (λ p. changes p.layer.value cell) after)),
      omega arith,
      remembers_then c.args.pass c.loop-predecessor.pass c.look-after.result.1 c.loop-predecessor.invariant.3
          (remembers_learns c.args.wave.now.board.cells c.loop-predecessor.pass i c.in-Some.layer.now c.look-after.result.1 c.loop-predecessor.invariant.0 inside learns),
    )

pub returns-clause-merged : goal.returns-clause-merged
returns-clause-merged c = c.loop-predecessor.invariant.1.merged_are

pub returns-clause-knows : goal.returns-clause-knows
returns-clause-knows c = c.loop-predecessor.invariant.3

pub returns-clause-start : goal.returns-clause-start
returns-clause-start c =
    let end : c.loop-predecessor.predecessor ≡ c.args.number = omega (arith, c.loop-predecessor.invariant.2) in
    c.in_ok-start.ensures
    ∙ found_cells layer_changes (cells_in c.args.wave.now.snapshot) c.loop-predecessor.pass c.loop-predecessor.self.count (changes c.loop-predecessor.self.layer.value)
    (changes c.loop-predecessor.later) c.args.number
    (subst (AreFound layer_changes c.loop-predecessor.pass c.loop-predecessor.self.count (changes c.loop-predecessor.self.layer.value) (changes c.loop-predecessor.later))
    end c.loop-predecessor.invariant.1)
