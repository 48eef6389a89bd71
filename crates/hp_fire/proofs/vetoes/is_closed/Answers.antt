use Rattle.std.proofs.Common.{rules, ◌≡◌, ap, sym, None}
use Rattle.std.specs.Prelude.{slice_get}
use Rattle.hp_model.specs.Rules.{Rule, no_rule}
use Rattle.hp_rule.specs.Mapped.{library}
use Rattle.hp_ops.proofs.Worlds.{index_none}
use Rattle.hp_fire.proofs.vetoes.is_closed.Goals as goal

pub returns-in-None : goal.returns-in-None
returns-in-None c =
    let none : slice_get (library c.args.lib.now).rules c.args.rule ≡ None = search rules in
    ap (λ (r : Rule). r.closed) (sym (index_none (library c.args.lib.now).rules c.args.rule no_rule none))
