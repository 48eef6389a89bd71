use Rattle.std.proofs.Common.{sym, subst}
use Rattle.std.proofs.lemmas.Option.{IfSome_then}
use Rattle.hp_store.specs.Indexed.{AreComplete}
use Rattle.hp_store.specs.Tables.{base_cells}
use Rattle.hp_store.proofs.base.Base.found.Goals as goal

pub returns-in_default-clause-covers : goal.returns-in_default-clause-covers
returns-in_default-clause-covers c = λ complete.
    IfSome_then c.indexed.result c.indexed.ensures
    (λ keys covers. covers (base_cells c.args.self.now) (subst (AreComplete (base_cells c.args.self.now)) (sym c.deref.ensures.value) complete))
