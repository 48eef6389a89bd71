-- What the crate's types stand for in the model: a function for each.
use Rattle.std.specs.Prelude.{map}
use Rattle.std.specs.Option.{option_map}
use Rattle.hp_model.specs.Cells.{Cells, Changes}
use Rattle.hp_model.specs.Groups.{Machine}
use Rattle.hp_model.specs.Groups as M
use Rattle.hp_board.specs.Groups.{GroupView}
use Rattle.hp_board.specs.declared.machine.Event.{Event}
use Rattle.hp_board.specs.declared.machine.Event.TheVariants.{Draw, Look, Post, Accept, Rerun}

-- the machine over these cells, with layers read as changes by this function
abbrev pub machine : {T : Type 0} → Cells → (T → Changes) → GroupView T → Machine
machine base changes g = record { base = base; drawn = g.drawn; seen = g.seen; posted = map (option_map changes) g.posted; settled = map changes g.settled }

-- the event, with layers read as changes by this function
abbrev pub event : {T : Type 0} → (T → Changes) → Event T → M.Event
event changes (Draw worker) = M.draw worker
event changes (Look worker task predecessors) = M.look worker task predecessors.items
event changes (Post worker task layer) = M.post worker task (changes layer)
event changes (Accept task) = M.accept task
event changes (Rerun task layer) = M.rerun task (changes layer)
