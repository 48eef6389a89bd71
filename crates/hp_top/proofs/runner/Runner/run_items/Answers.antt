use Rattle.std.proofs.Common.{sym, subst, ap, List, map, length, arith}
use Rattle.std.proofs.lemmas.List.{length-map}
use Rattle.hp_rule.specs.Mapped.{library}
use Rattle.hp_store.specs.Stack.{cells_in}
use Rattle.hp_tree.specs.declared.report.UnitReport.{UnitReport}
use Rattle.hp_tree.specs.Mapped.{unit_report}
use Rattle.hp_top.proofs.Attempted.{RanSoFar, ran_none, ran_one, ran_units, stopped_after, units_are_replayed}
use Rattle.hp_top.proofs.Keeping.{units_keep}
use Rattle.hp_top.proofs.runner.Runner.run_items.Goals as goal

pub loop-unit-init : goal.loop-unit-init
loop-unit-init g c =
    let L = library c.args.self.now.engine.lib.now in
    let before = cells_in c.args.store.now in
    subst (λ (rs : List UnitReport). RanSoFar L c.args.items.now 0 before before (map unit_report rs)) (sym c.new-reports.ensures.items) (ran_none L c.args.items.now before)

pub loop-unit-preserved : goal.loop-unit-preserved
loop-unit-preserved g c = ran_one c.unit-item.result c.loop-unit-test.true c.unit-item.is c.loop-unit.invariant c.in_default.ensures.ok

pub returns-in-Err-clause-ran : goal.returns-in-Err-clause-ran
returns-in-Err-clause-ran g c = stopped_after c.in-Err.ensures.err c.in-Err.ensures.none (ran_units (omega arith) c.loop-unit.invariant)

pub returns-in-Err-clause-replayed : goal.returns-in-Err-clause-replayed
returns-in-Err-clause-replayed g c = units_are_replayed (returns-in-Err-clause-ran g c)

pub returns-in-Err-clause-fit : goal.returns-in-Err-clause-fit
returns-in-Err-clause-fit g c = units_keep c.args.self.now.engine.lib.now c.args.items.now (returns-in-Err-clause-ran g c)

pub returns-in-Err-clause-cut : goal.returns-in-Err-clause-cut
returns-in-Err-clause-cut g c = λ some.
    let many = c.loop-unit.invariant.many in
    omega (arith, length-map c.loop-unit.reports.items unit_report, ap length c.in-Err.ensures.none)

pub returns-clause-ran : goal.returns-clause-ran
returns-clause-ran g c = ran_units (omega arith) c.loop-unit.invariant

pub returns-clause-replayed : goal.returns-clause-replayed
returns-clause-replayed g c = units_are_replayed (returns-clause-ran g c)

pub returns-clause-fit : goal.returns-clause-fit
returns-clause-fit g c = units_keep c.args.self.now.engine.lib.now c.args.items.now (returns-clause-ran g c)
