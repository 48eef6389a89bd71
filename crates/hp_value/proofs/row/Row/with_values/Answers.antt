use Rattle.std.proofs.Common.{◌≡◌, take, length}
use Rattle.hp_value.specs.Rows.{row_of}
use Rattle.hp_value.proofs.Rows.{renewed_row}
use Rattle.hp_value.proofs.row.Row.with_values.Goals as goal

pub returns : goal.returns
returns c =
    let e : c.truncate.new.self.items ≡ take (length (row_of c.self.inside.lists.value.fields.value.items c.self.inside.lists.value.values.items)) c.args.values.items = cc in
    rw (← c.self.view_is, ← (renewed_row c.self.inside.lists.value.fields.value.items c.self.inside.lists.value.values.items c.args.values.items), ← e, ← c.deref.ensures) c.new.ensures
