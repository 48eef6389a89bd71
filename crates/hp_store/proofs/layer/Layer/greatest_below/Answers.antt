use Rattle.std.proofs.Common.{◌≡◌, ap, sym, ◌∙◌, int_lt, to_z, of_z, w64, rules}
use Rattle.std.specs.Map.Iter.{deref_pair}
use Rattle.hp_store.proofs.Topmost.{none_left, layer_last, layer_none}
use Rattle.hp_store.proofs.layer.Layer.greatest_below.Goals as goal

pub returns-in-Some-Object-default-clause-above : goal.returns-in-Some-Object-default-clause-above
returns-in-Some-Object-default-clause-above c = λ key below above.
    let found = c.in-Some-Object-default in
    let one : to_z w64 (of_z w64 found.key) ≡ found.key = search rules in
    layer_last c.args.class c.args.bound c.end_of.result c.self.inside.changes c.args.self.now c.range.result c.end_of.ensures c.self.view_is c.self.invariant.0 (c.range.ensures.in_range tt)
    c.next_back.new.self (found.field-0-0.now, found.field-0-1.now) found.field-0-0-0 found.key found.ensures.steps found.field-0-0-is key below (ap (λ k. int_lt k key) (sym one) ∙ above)

pub returns-in_default-2-clause-above : goal.returns-in_default-2-clause-above
returns-in_default-2-clause-above c = λ key below above.
    layer_none c.args.class c.args.bound c.end_of.result c.self.inside.changes c.args.self.now c.range.result c.end_of.ensures c.self.view_is c.self.invariant.0 (c.range.ensures.in_range tt)
    (none_left deref_pair c.range.result c.next_back.new.self c.next_back.result c.in_default.is c.next_back.ensures.steps) key below
