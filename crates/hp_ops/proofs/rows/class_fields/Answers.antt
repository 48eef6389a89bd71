use Rattle.std.proofs.Common.{rules, ◌≡◌, ap, sym, ◌∙◌, map, []}
use Rattle.hp_model.specs.Values.{ClassDef}
use Rattle.hp_model.specs.Rules.{class_at, no_class}
use Rattle.hp_value.specs.Mapped.{field}
use Rattle.hp_rule.specs.Mapped.{library}
use Rattle.hp_ops.proofs.Worlds.{index_none}
use Rattle.hp_ops.proofs.rows.class_fields.Goals as goal

pub returns-in_ok-new-in-None : goal.returns-in_ok-new-in-None
returns-in_ok-new-in-None c =
    let none : class_at (library c.args.lib.now) c.args.class ≡ no_class = index_none (library c.args.lib.now).classes c.args.class no_class (search rules) in
    let empty : map field c.in_ok-new-in-None.field-0.value.items ≡ [] = search rules in
    empty ∙ ap (λ (x : ClassDef). x.fields) (sym none)
