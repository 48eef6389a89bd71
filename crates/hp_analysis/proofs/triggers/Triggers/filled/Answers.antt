use Rattle.std.proofs.Common.{◌≡◌, subst, List, Bool}
use Rattle.std.specs.Prelude.{IfOk}
use Rattle.hp_rule.specs.Libraries as libraries
use Rattle.hp_analysis.proofs.Only.{only_filled}
use Rattle.hp_analysis.proofs.triggers.Triggers.filled.Goals as goal

pub returns : goal.returns
returns c =
    let self = c.args.self.now in
    subst (λ (bs : List Bool). IfOk c.filled.result (λ set. set.items ≡ bs)) (only_filled self.present.items (libraries.library self.library.now) c.args.member) c.filled.ensures
