use Rattle.std.proofs.Common.{◌≡◌, ap, sym, ◌∙◌, int_lt, to_z, of_z, w64, rules}
use Rattle.hp_store.proofs.Topmost.{table_last}
use Rattle.hp_store.proofs.base.last_below.Goals as goal

pub returns-in-Some-clause-above : goal.returns-in-Some-clause-above
returns-in-Some-clause-above c = λ key below above.
    let one : to_z w64 (of_z w64 c.in-Some.key.now) ≡ c.in-Some.key.now = search rules in
    table_last c.args.bound c.below.result c.args.table.now c.range.result c.next_back.new.self (c.in-Some.key.now, c.in-Some.field-0-1.now) c.below.ensures
    (c.range.ensures.in_range tt) c.in-Some.ensures.steps
    key below (ap (λ k. int_lt k key) (sym one) ∙ above)
