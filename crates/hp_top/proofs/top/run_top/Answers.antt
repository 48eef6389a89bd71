use Rattle.std.proofs.Common.{ap, subst}
use Rattle.hp_model.specs.Cascade.{now_in, top, unit_work}
use Rattle.hp_rule.specs.Mapped.{library, unit}
use Rattle.hp_top.specs.Mapped.{top_of}
use Rattle.hp_top.specs.Runs.{RunsTop}
use Rattle.hp_top.proofs.top.run_top.Goals as goal

pub returns : goal.returns
returns g c =
    subst (λ l. RunsTop (library l) (top (library l) (now_in (unit c.args.unit.now)) 0 (unit_work (library l) (unit c.args.unit.now))) c.args.view
    c.run_top.new.view (top_of c.in_ok-top.top)) (ap (λ r. r.now) c.new.ensures.lib) c.in_ok-top.ensures
