use Rattle.std.proofs.Common.{take}
use Rattle.hp_model.specs.Cells.{AreKeys, over}
use Rattle.hp_store.specs.Changes.{changes_in}
use Rattle.hp_store.specs.Tables.{base_cells}
use Rattle.hp_store.proofs.snapshot.keys_of.Given as goal

abbrev pub invariant-loop-shared : goal.invariant-loop-shared
invariant-loop-shared l = AreKeys (over (base_cells l.base) (changes_in (take l.shared-index l.layers))) l.class l.keys.items
