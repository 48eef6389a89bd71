use Rattle.std.proofs.Common.{◌≡◌, ◌++◌, map, drop}
use Rattle.hp_model.specs.NotationTree as T
use Rattle.hp_text.specs.Mapped.{node_view}
use Rattle.hipac_check.specs.Spots.{transactions_from}
use Rattle.hipac_check.proofs.walk.transactions_among.Given as goal

-- the indexes so far, with those of the rest of the items, are all
abbrev pub invariant-loop-i : goal.invariant-loop-i
invariant-loop-i l =
    l.indexes.items ++ transactions_from l.i (T.nodes (map node_view (drop l.i l.items))) ≡ transactions_from 0 (T.nodes (map node_view l.items))
