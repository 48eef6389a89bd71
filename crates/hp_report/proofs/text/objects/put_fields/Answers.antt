use Rattle.std.proofs.Common.{rules}
use Rattle.hp_report.specs.Mapped.{value}
use Rattle.hp_report.proofs.Lines.{field_put}
use Rattle.hp_report.proofs.text.objects.put_fields.Goals as goal

pub loop-index-preserved : goal.loop-index-preserved
loop-index-preserved c =
    field_put c.args.row.now c.loop-index.index c.unwrap.result.0.now (value c.unwrap.result.1.now) _ _ _ _
    (search rules) c.loop-index.invariant c.in_ok-write.ensures.bytes c.in_ok-put_value.ensures
