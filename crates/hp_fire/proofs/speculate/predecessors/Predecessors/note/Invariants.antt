use Rattle.hp_board.specs.Passes.{IsPassOf}
use Rattle.hp_fire.specs.Starts.{HasMerged, Remembers}
use Rattle.hp_fire.proofs.speculate.predecessors.Predecessors.note.Given as goal

abbrev pub invariant-loop-predecessor : goal.invariant-loop-predecessor
invariant-loop-predecessor l = IsPassOf l.wave.board.cells l.pass × HasMerged l.self l.pass × Remembers l.fn.pass l.pass
