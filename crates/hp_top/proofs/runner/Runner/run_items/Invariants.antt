use Rattle.std.proofs.Common.{map}
use Rattle.hp_rule.specs.Mapped.{library}
use Rattle.hp_store.specs.Stack.{cells_in}
use Rattle.hp_tree.specs.Mapped.{unit_report}
use Rattle.hp_top.proofs.Attempted.{RanSoFar}
use Rattle.hp_top.proofs.runner.Runner.run_items.Given as goal

-- the units so far ran
abbrev pub invariant-loop-unit : goal.invariant-loop-unit
invariant-loop-unit g l = RanSoFar (library l.self.engine.lib.now) l.items l.unit-index (cells_in l.fn.store) (cells_in l.store) (map unit_report l.reports.items)
