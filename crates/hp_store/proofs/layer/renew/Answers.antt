use Rattle.std.proofs.Common.{refl, ap, subst, ◌∙◌, map, None}
use Rattle.hp_model.specs.Cells.{changed}
use Rattle.hp_value.specs.Mapped.{cell}
use Rattle.hp_store.specs.Indexed.{AreComplete, with_value}
use Rattle.hp_store.specs.Mapped.{entry}
use Rattle.hp_store.proofs.Entered.{read_change}
use Rattle.hp_store.proofs.layer.renew.Goals as goal

pub returns-then-not-is_empty : goal.returns-then-not-is_empty
returns-then-not-is_empty c = λ cells all.
    subst (λ v. AreComplete (with_value cells (cell c.args.cell) v) c.renew_all.new.indexes.items)
    (c.value_of-then-not-is_empty.ensures ∙ ap (changed None) (read_change c.args.cell c.args.named.now (map entry c.args.named.now.entries) c.get.result refl c.get.ensures.value))
    (c.renew_all.ensures.complete cells all)
