use Rattle.std.proofs.Common.{rules, ◌≡◌, true, false}
use Rattle.hipac_c.proofs.Opened.{unchecked, checked}
use Rattle.hipac_c.proofs.checks_for.Goals as goal

pub returns-then-not-checked : goal.returns-then-not-checked
returns-then-not-checked c =
    let off : c.args.checked ≡ false = search rules in
    unchecked c.args.checked off

pub returns : goal.returns
returns c =
    let on : c.args.checked ≡ true = search rules in
    checked c.args.checked _ on
