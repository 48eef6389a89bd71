use Rattle.std.proofs.Common.{◌≡◌, drop, map}
use Rattle.std.specs.List.{list_all}
use Rattle.hp_model.specs.Values as model
use Rattle.hp_model.specs.Cells.{object_cell}
use Rattle.hp_value.specs.Mapped.{keyed_row}
use Rattle.hp_view.specs.Seeing.{now_in}
use Rattle.hp_view.specs.Wholes.{is_row}
use Rattle.hp_view.proofs.view.View.has_rows.Given as goal

abbrev pub invariant-loop-object : goal.invariant-loop-object
invariant-loop-object l =
    list_all (λ (o : model.KeyedRow). is_row (now_in l.self (object_cell l.class o.key)) o.row) (map keyed_row (drop l.object-index l.rows))
    ≡ list_all (λ (o : model.KeyedRow). is_row (now_in l.self (object_cell l.class o.key)) o.row) (map keyed_row l.rows)
