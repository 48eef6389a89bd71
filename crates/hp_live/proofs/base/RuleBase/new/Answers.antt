use Rattle.std.proofs.Common.{refl}
use Rattle.hp_rule.specs.Mapped.{library}
use Rattle.hp_live.proofs.base.RuleBase.new.Goals as goal

pub returns : goal.returns
returns c =
    let opening = c.in_ok-opening.ensures in
    let l = library c.args.library.value in
    record { version_is = refl; library_is = refl; ordered = opening.ordered l; cells_are = opening.cells l; clock_is = refl; units_are = refl }
