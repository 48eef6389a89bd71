use Rattle.std.proofs.Common.{rules, ◌≡◌, ap, sym}
use Rattle.hp_model.specs.Values.{ClassDef}
use Rattle.hp_model.specs.Rules.{class_at, no_class}
use Rattle.hp_rule.specs.Mapped.{library}
use Rattle.hp_ops.proofs.Worlds.{index_none}
use Rattle.hp_ops.proofs.rows.fields_in.Goals as goal

pub returns-in-None : goal.returns-in-None
returns-in-None c =
    let none : class_at (library c.args.lib.now) c.args.class ≡ no_class = index_none (library c.args.lib.now).classes c.args.class no_class (search rules) in
    ap (λ (x : ClassDef). x.fields) (sym none)
