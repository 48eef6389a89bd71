use Rattle.std.proofs.Common.{map}
use Rattle.hp_store.specs.Stack.{cells_in}
use Rattle.hp_report.specs.Mapped.{library, status}
use Rattle.hp_report.proofs.Ends.{AreSome}
use Rattle.hp_report.proofs.ending.final_statuses.Given as goal

-- the statuses before the place stand in front of those that are left
abbrev pub invariant-loop-place : goal.invariant-loop-place
invariant-loop-place l = AreSome (library l.lib) (cells_in l.store) l.place (map status l.statuses.items)
