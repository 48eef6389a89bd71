use Rattle.std.proofs.Common.{◌≡◌, ◌++◌, map, take}
use Rattle.hp_model.specs.Cascade.{moment}
use Rattle.hp_rule.specs.Mapped.{unit}
use Rattle.hp_rule.specs.declared.library.Library.{Library}
use Rattle.hp_script.specs.OwnBodies.{AreOf}
use Rattle.hp_script.proofs.item.with_moments.Given as goal

abbrev pub invariant-loop-moment : goal.invariant-loop-moment
invariant-loop-moment l = record {
  units : map unit l.all.items ≡ map unit l.initial.all.items ++ map moment (take l.moment-index l.moments);
  own : (library : Library) → AreOf library l.initial.all.items → AreOf library l.all.items;
}
