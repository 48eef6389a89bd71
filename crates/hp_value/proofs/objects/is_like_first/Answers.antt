use Rattle.hp_value.proofs.Rows.{alike_after}
use Rattle.hp_value.proofs.objects.is_like_first.Goals as goal

pub returns-in-Some : goal.returns-in-Some
returns-in-Some c = λ h alike. alike_after c.args.rows.now c.in-Some.first.now c.args.added.now c.in-Some.ensures.value (c.has_fields_of.ensures h) alike
