use Rattle.std.proofs.Common.{◌≡◌, map, drop, false}
use Rattle.hp_model.specs.Idle.{unit_installs}
use Rattle.hp_rule.specs.Libraries as libraries
use Rattle.hp_rule.specs.Mapped.{unit}
use Rattle.hp_analysis.specs.Sets.{gathered}
use Rattle.hp_analysis.proofs.installs.installed_by.Given as goal

-- the rest of the units are still to be added
abbrev pub invariant-loop-unit : goal.invariant-loop-unit
invariant-loop-unit l = gathered unit_installs (map unit (drop l.unit-index l.units)) l.set.items ≡ gathered unit_installs (map unit l.units) (map (λ r. false) (libraries.library l.library).rules)
