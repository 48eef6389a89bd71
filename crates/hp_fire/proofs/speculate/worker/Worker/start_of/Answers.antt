use Rattle.std.proofs.Common.{rules, ◌≡◌, Some}
use Rattle.hp_fire.proofs.speculate.worker.Worker.start_of.Goals as goal

pub returns-clause-knows : goal.returns-clause-knows
returns-clause-knows c =
    let here : c.args.self.now.pass ≡ Some c.in_ok-pass.pass = search rules in
    (c.in_ok-pass.pass, here, c.in-Ok.ensures.knows)
