use Rattle.std.proofs.Common.{sym, subst}
use Rattle.hp_store.specs.Indexed.{AreComplete}
use Rattle.hp_store.specs.Tables.{base_cells}
use Rattle.hp_store.proofs.base.Base.candidates.Goals as goal

pub returns-in-Some : goal.returns-in-Some
returns-in-Some c = λ all. c.in-Some.ensures (base_cells c.args.self.now) (subst (AreComplete (base_cells c.args.self.now)) (sym c.deref.ensures.value) all)
