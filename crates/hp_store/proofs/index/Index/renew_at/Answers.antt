use Rattle.std.proofs.Common.{rules, ◌≡◌}
use Rattle.hp_model.specs.Cells.{object_cell}
use Rattle.hp_value.specs.Mapped as mapped
use Rattle.hp_store.proofs.index.Index.renew_at.Goals as goal

pub returns-clause-elsewhere : goal.returns-clause-elsewhere
returns-clause-elsewhere c = λ other.
    let own : mapped.cell c.args.cell ≡ object_cell c.args.self.now.class c.in-Object.key = search rules in
    absurd (other c.in-Object.key own)
