use Rattle.std.proofs.Common.{◌≡◌, ap, ◌∙◌, to_z, of_z, w64, rules, not}
use Rattle.hp_model.specs.Cells.{over}
use Rattle.hp_store.specs.Changes.{changes}
use Rattle.hp_store.specs.Stack.{cells_in}
use Rattle.hp_store.proofs.Listing.{found_listed, missed_listed}
use Rattle.hp_store.proofs.Searching.{searchable}
use Rattle.hp_store.proofs.snapshot.Snapshot.lists.Goals as goal

pub returns-in-Ok : goal.returns-in-Ok
returns-in-Ok c =
    let key : to_z w64 (of_z w64 c.in-Object.key) ≡ c.in-Object.key = search rules in
    found_listed (over (cells_in c.args.self.now) (changes c.args.writes.now)) c.args.keys.now c.args.cell c.in-Object.field-0 c.in-Object.key (to_z w64 (of_z w64 c.in-Object.key)) c.in-Ok.field-0
    c.in-Object.is key c.in-Ok.ensures.bound c.in-Ok.ensures.ok

pub returns-in-Err : goal.returns-in-Err
returns-in-Err c =
    let key : to_z w64 (of_z w64 c.in-Object.key) ≡ c.in-Object.key = search rules in
    ap not c.holds.ensures
    ∙ missed_listed (over (cells_in c.args.self.now) (changes c.args.writes.now)) c.args.keys.now c.args.cell c.in-Object.field-0 c.in-Object.key (to_z w64 (of_z w64 c.in-Object.key)) c.in-Err.field-0
    c.in-Object.is key (c.in-Err.ensures.position (searchable c.args.keys.now (to_z w64 (of_z w64 c.in-Object.key)) c.requires))
