use Rattle.std.proofs.Common.{◌≤◌}
use Rattle.hp_board.specs.Passes.{IsPassOf}
use Rattle.hp_store.specs.Changes.{changes}
use Rattle.hp_fire.specs.Starts.{layer_changes, Remembers}
use Rattle.hp_fire.proofs.Posted.{AreFound}
use Rattle.hp_fire.proofs.speculate.predecessors.Predecessors.start_of.Given as goal

abbrev pub invariant-loop-predecessor : goal.invariant-loop-predecessor
invariant-loop-predecessor l =
    IsPassOf l.wave.board.cells l.pass × AreFound layer_changes l.pass l.self.count (changes l.self.layer.value) (changes l.later) l.predecessor × (l.predecessor ≤ l.number)
    × Remembers l.fn.pass l.pass
