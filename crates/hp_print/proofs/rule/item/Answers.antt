use Rattle.std.proofs.Common.{sym}
use Rattle.serde_json.specs.View.{view}
use Rattle.hp_print.specs.Written.{gap_view}
use Rattle.hp_print.proofs.Chains.{onward}
use Rattle.hp_model.specs.NotationPrint.{item_pieces}
use Rattle.hp_print.proofs.ScriptSteps.{item_in_form}
use Rattle.hp_print.proofs.Readings.{one_item}
use Rattle.hp_print.proofs.rule.item.Goals as goal

pub returns-in-len1 : goal.returns-in-len1
returns-in-len1 c =
    onward c.item_of.result c.args.w.now c.item_of.new.w (λ i. item_pieces i (gap_view c.args.gap)) _ _
    (item_in_form _ _ _ (sym c.in-Some.ensures) (one_item view _ c.part-item.result c.in-len1.len_at_least c.in-len1.len_below c.part-item.is)) c.item_of.ensures
