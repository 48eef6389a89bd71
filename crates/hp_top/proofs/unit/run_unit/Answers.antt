use Rattle.std.proofs.Common.{ap, subst}
use Rattle.hp_rule.specs.Mapped.{library, unit as unit_of}
use Rattle.hp_store.specs.Stack.{cells_in}
use Rattle.hp_tree.specs.Mapped.{unit_report}
use Rattle.hp_top.specs.Units.{RanUnit}
use Rattle.hp_top.proofs.Attempted.{unit_replayed, unit_lawful}
use Rattle.hp_top.proofs.Keeping.{unit_keeps}
use Rattle.hp_top.proofs.unit.run_unit.Goals as goal

pub returns-clause-ran : goal.returns-clause-ran
returns-clause-ran g c =
    subst (λ l. RanUnit (library l) (unit_of c.args.unit.now) (cells_in c.args.store.now) (cells_in c.run_unit.new.store) (unit_report c.in_ok-report.report))
    (ap (λ r. r.now) c.new.ensures.lib) c.in_ok-report.ensures.ran

pub returns-clause-replayed : goal.returns-clause-replayed
returns-clause-replayed g c = unit_replayed (returns-clause-ran g c)

pub returns-clause-lawful : goal.returns-clause-lawful
returns-clause-lawful g c = unit_lawful (returns-clause-ran g c)

pub returns-clause-fit : goal.returns-clause-fit
returns-clause-fit g c = unit_keeps c.args.lib.now c.args.unit.now (returns-clause-ran g c)
