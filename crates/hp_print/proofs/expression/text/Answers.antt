use Rattle.std.proofs.Common.{ap, Some, None}
use Rattle.std.specs.Prelude.{if◌then◌else◌}
use Rattle.std.proofs.lemmas.Str.{is_utf8-from_IsUtf8}
use Rattle.hp_model.specs.NotationForms as F
use Rattle.hp_model.specs.NotationPrint.{expression_pieces}
use Rattle.hp_print.specs.Written.{gap_view}
use Rattle.hp_print.proofs.Chains.{onward}
use Rattle.hp_print.proofs.expression.text.Goals as goal

pub returns : goal.returns
returns c =
    onward c.put.result c.args.w.now c.put.new.self (λ e. expression_pieces e (gap_view c.args.gap)) _ _
    (ap (λ b. if b then Some (F.text c.args.string.now) else None) (is_utf8-from_IsUtf8 _ c.utf8.string)) c.put.ensures
