use Rattle.std.proofs.Common.{◌≡◌, to_z, of_z, w64, rules, refl}
use Rattle.std.specs.Vec.{with_item}
use Rattle.hp_model.specs.Cells.{Cell}
use Rattle.hp_store.specs.declared.base.Base.{Base}
use Rattle.hp_store.specs.Tables.{base_cells}
use Rattle.hp_store.proofs.Based.{Placed, object_set, object_same, on_err}
use Rattle.hp_store.proofs.base.Base.replace.Goals as goal

pub returns-in_err-old-in-Object-clause-err : goal.returns-in_err-old-in-Object-clause-err
returns-in_err-old-in-Object-clause-err c =
    let there : Placed c.args.self.now c.make_room.new.tables.items c.in-Object.class c.index_mut.result.now =
    record { same = c.in_ok-make_room-in-Object.ensures.same; within = c.in_ok-make_room-in-Object.ensures.room; is = c.index_mut.ensures.value } in
    let new : Base =
    record {
      statuses = c.args.self.now.statuses;
      detectors = c.args.self.now.detectors;
      classes = with_item c.make_room.new.tables c.in-Object.class c.put.new.table;
      indexes =
          c.args.self.now.indexes;
    } in
    on_err c.from_residual-in_err-old-in-Object.result ((q : Cell) → base_cells new q ≡ base_cells c.args.self.now q)
    (object_same c.args.self.now new c.make_room.new.tables.items c.in-Object.class c.index_mut.result.now c.put.new.table there refl refl refl c.in_err-old-in-Object.ensures.err)

pub returns-in_ok-old-in-Object-clause-ok : goal.returns-in_ok-old-in-Object-clause-ok
returns-in_ok-old-in-Object-clause-ok c =
    let there : Placed c.args.self.now c.make_room.new.tables.items c.in-Object.class c.index_mut.result.now =
    record { same = c.in_ok-make_room-in-Object.ensures.same; within = c.in_ok-make_room-in-Object.ensures.room; is = c.index_mut.ensures.value } in
    let new : Base =
    record {
      statuses = c.args.self.now.statuses;
      detectors = c.args.self.now.detectors;
      classes = with_item c.make_room.new.tables c.in-Object.class c.put.new.table;
      indexes =
          c.args.self.now.indexes;
    } in
    let key : to_z w64 (of_z w64 c.in-Object.key) ≡ c.in-Object.key = search rules in
    object_set c.args.self.now new c.make_room.new.tables.items c.args.cell c.in-Object.class c.in-Object.key (to_z w64 (of_z w64 c.in-Object.key)) c.index_mut.result.now c.put.new.table c.args.change
    there refl refl refl c.in-Object.is key c.in_ok-old-in-Object.ensures.ok
