use Rattle.hp_store.proofs.Covered.{covers_table}
use Rattle.hp_store.proofs.base.Base.between.Goals as goal

pub returns-in-Some : goal.returns-in-Some
returns-in-Some c =
    covers_table c.args.self.now c.args.class c.args.low c.args.high c.included.result c.included-in-Some.result c.in-Some.table.now.entries c.range.result
    c.included.ensures c.included-in-Some.ensures c.in-Some.ensures (c.range.ensures.between tt)
