use Rattle.std.proofs.Common.{ap, ◌∙◌}
use Rattle.hp_store.specs.Tables.{table_at}
use Rattle.hp_store.proofs.Based.{table_push}
use Rattle.hp_store.proofs.base.make_room.Goals as goal

pub loop-alloc-preserved : goal.loop-alloc-preserved
loop-alloc-preserved c = λ i.
    ap (λ l. table_at l i) c.in_ok-push.ensures.items ∙ table_push c.loop-alloc.tables.items c.new.result i c.new.ensures.empty ∙ c.loop-alloc.invariant i
