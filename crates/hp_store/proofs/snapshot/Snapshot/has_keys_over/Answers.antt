use Rattle.std.proofs.Common.{refl}
use Rattle.hp_store.proofs.Listing.{told, told_missing}
use Rattle.hp_store.proofs.snapshot.Snapshot.has_keys_over.Goals as goal

pub returns-then-holds_each : goal.returns-then-holds_each
returns-then-holds_each c =
    told c.args.self.now c.args.writes.now c.args.class c.args.keys.now c.lists_each.result (c.if-not-rise.ensures.0 refl) c.if-holds_each.ensures c.lists_each.ensures

pub returns-else-holds_each : goal.returns-else-holds_each
returns-else-holds_each c = told_missing c.args.self.now c.args.writes.now c.args.class c.args.keys.now c.holds_each.result c.if-holds_each.false c.holds_each.ensures
