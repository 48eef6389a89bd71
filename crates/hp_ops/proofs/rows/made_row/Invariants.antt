use Rattle.std.proofs.Common.{◌≡◌, drop, take, map, length}
use Rattle.hp_model.specs.Firing as model
use Rattle.hp_value.specs.Mapped.{field, row_of}
use Rattle.hp_ops.specs.Given.{given_in}
use Rattle.hp_ops.proofs.GivenRows.{onto}
use Rattle.hp_ops.proofs.rows.made_row.Given as goal

-- the row so far, and then the rest, is the whole
abbrev pub invariant-loop-f : goal.invariant-loop-f
invariant-loop-f l =
    record {
      so_far : onto (row_of (take l.f-index l.f-items) l.values.items) (model.made_row (map field (drop l.f-index l.f-items)) (given_in l.given)) ≡ model.made_row
          (map field l.f-items) (given_in l.given);
      one_each : length l.values.items ≡ l.f-index;
    }
