use Rattle.std.proofs.Common.{◌≡◌, drop}
use Rattle.hp_model.specs.Tree.{replay}
use Rattle.hp_tree.specs.Mapped.{items_in}
use Rattle.hp_tree.proofs.replaying.+replay.Given as goal

-- replaying the rest gives the same objects as replaying the whole
abbrev pub invariant-replay_items-loop-item : goal.invariant-replay_items-loop-item
invariant-replay_items-loop-item l = replay (items_in (drop l.item-index l.items)) l.objects ≡ replay (items_in l.items) l.fn.objects
