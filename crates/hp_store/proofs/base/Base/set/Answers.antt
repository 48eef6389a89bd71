use Rattle.std.proofs.Common.{◌≡◌, ◌∙◌, ap, rules}
use Rattle.std.specs.Prelude.{option_map}
use Rattle.hp_value.specs.Mapped.{cell}
use Rattle.hp_store.specs.Mapped.{cell_value}
use Rattle.hp_store.specs.Tables.{base_cells}
use Rattle.hp_store.proofs.Based.{found_value}
use Rattle.hp_store.proofs.Indexed.{complete_same, complete_set}
use Rattle.hp_store.proofs.base.Base.set.Goals as goal

pub returns-in_err-old-clause-complete : goal.returns-in_err-old-clause-complete
returns-in_err-old-clause-complete c =
    complete_same (base_cells c.args.self.now) (base_cells c.replace.new.self) c.args.self.now.indexes c.replace.new.self.indexes c.in_err-old.ensures.indexes c.in_err-old.ensures.err

pub returns-clause-complete : goal.returns-clause-complete
returns-clause-complete c =
    let given : c.in_ok-clone.field-0 ≡ c.args.change.now = search rules in
    complete_set c.args.self.now c.replace.new.self c.renew_all.new.indexes (cell c.args.cell) c.args.change.now c.in_ok-clone.field-0 c.as_ref-2.result given
    (found_value c.as_ref-2.result ∙ ap (option_map cell_value) c.as_ref-2.ensures.value) c.in_ok-old.ensures.indexes c.in_ok-old.ensures.ok (c.renew_all.ensures.complete (base_cells c.args.self.now))
