use Rattle.std.proofs.Common.{sym, subst, []}
use Rattle.std.specs.List.Sorted.{IsStrictlySortedBy}
use Rattle.std.specs.Ordering.{int_cmp}
use Rattle.hp_store.proofs.Based.{table_keys, no_keys_rise}
use Rattle.hp_store.proofs.base.Base.keys.Goals as goal

pub returns-in_ok-list-in-Some : goal.returns-in_ok-list-in-Some
returns-in_ok-list-in-Some c =
    table_keys c.args.self.now c.args.class c.in-Some.table.now.entries c.in_ok-list-in-Some.list.items (sym c.in-Some.ensures)
    (subst (IsStrictlySortedBy int_cmp) c.in_ok-list-in-Some.ensures.all c.in_ok-list-in-Some.ensures.rise) c.in_ok-list-in-Some.ensures.all

pub returns-in-None : goal.returns-in-None
returns-in-None c = table_keys c.args.self.now c.args.class [] c.new.result.items c.in-None.ensures no_keys_rise c.new.ensures.items
