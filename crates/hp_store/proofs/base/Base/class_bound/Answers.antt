use Rattle.std.proofs.Common.{◌≤◌, ap, option_map, length, arith}
use Rattle.std.specs.Ordering.{int_cmp}
use Rattle.std.specs.BTreeMap.{is_at}
use Rattle.std.specs.Map.{lookup}
use Rattle.hp_store.specs.Mapped.{cell_value}
use Rattle.hp_store.proofs.Based.{table_past}
use Rattle.hp_store.proofs.base.Base.class_bound.Goals as goal

pub returns : goal.returns
returns c class key up =
    let past : length c.args.self.now.classes.items ≤ class = grind (arith, c.len.ensures, up) in
    ap (λ l. option_map cell_value (lookup (is_at (int_cmp key)) l)) (table_past c.args.self.now.classes.items class past)
