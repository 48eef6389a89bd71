use Rattle.std.proofs.Common.{ap, subst, map}
use Rattle.hp_rule.specs.Mapped.{library, unit as unit_of}
use Rattle.hp_store.specs.Stack.{cells_in}
use Rattle.hp_tree.specs.Mapped.{unit_report}
use Rattle.hp_top.specs.Units.{RanUnits}
use Rattle.hp_top.proofs.Attempted.{units_are_replayed}
use Rattle.hp_top.proofs.Keeping.{units_keep}
use Rattle.hp_top.proofs.items.run_items.Goals as goal

pub returns-clause-ran : goal.returns-clause-ran
returns-clause-ran g c =
    subst (λ l. RanUnits (library l) (map unit_of c.args.items.now) (cells_in c.args.store.now) (cells_in c.run_items.new.store) (map unit_report c.run_items.result.reports.items))
    (ap (λ r. r.now) c.new.ensures.lib) c.run_items.ensures.ran

pub returns-clause-replayed : goal.returns-clause-replayed
returns-clause-replayed g c = units_are_replayed (returns-clause-ran g c)

pub returns-clause-fit : goal.returns-clause-fit
returns-clause-fit g c = units_keep c.args.lib.now c.args.items.now (returns-clause-ran g c)
