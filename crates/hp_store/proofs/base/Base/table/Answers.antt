use Rattle.std.proofs.Common.{ap, sym, ◌∙◌}
use Rattle.hp_store.specs.Tables.{table_at}
use Rattle.hp_store.proofs.Based.{table_is, table_past}
use Rattle.hp_store.proofs.base.Base.table.Goals as goal

pub returns-in-Some : goal.returns-in-Some
returns-in-Some c =
    sym (ap (λ l. table_at l c.args.class) (sym c.deref.ensures.value) ∙ table_is c.deref.result.now c.args.class c.in-Some.table.now c.in-Some.ensures.lookup.3.0 c.in-Some.ensures.lookup.1)

pub returns-in-None : goal.returns-in-None
returns-in-None c = ap (λ l. table_at l c.args.class) (sym c.deref.ensures.value) ∙ table_past c.deref.result.now c.args.class c.in-None.ensures.lookup.3
