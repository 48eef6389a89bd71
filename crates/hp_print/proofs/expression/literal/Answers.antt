use Rattle.std.proofs.Common.{◌≡◌, sym, ap, ◌∙◌, Some, rules, SFits, w64, of_z, to_z}
use Rattle.std.proofs.lemmas.Int.{to_z-of_z}
use Rattle.hp_model.specs.NotationForms as F
use Rattle.hp_model.specs.NotationPrint.{expression_pieces}
use Rattle.hp_print.specs.Written.{gap_view}
use Rattle.serde_json.specs.View.{view}
use Rattle.hp_print.proofs.Chains.{onward}
use Rattle.hp_print.proofs.Readings.{integer_literal, text_literal, fits_is}
use Rattle.hp_print.proofs.expression.literal.Goals as goal

pub returns-in-Some : goal.returns-in-Some
returns-in-Some c =
    let z = c.in-Some.number in
    let fits : SFits w64 z = search rules in
    let back : to_z w64 (of_z w64 z) ≡ z = to_z-of_z w64 z fits in
    onward c.integer.result c.args.w.now c.integer.new.w (λ e. expression_pieces e (gap_view c.args.gap)) _ _
    (integer_literal (view c.args.value.now) z (sym c.in-Some.ensures) (fits_is z fits) ∙ ap (λ x. Some (F.integer x)) (sym back)) c.integer.ensures

pub returns-in-Some-as_str : goal.returns-in-Some-as_str
returns-in-Some-as_str c = onward c.text.result c.args.w.now c.text.new.w (λ e. expression_pieces e (gap_view c.args.gap)) _ _
    (text_literal (view c.args.value.now) _ (sym c.in-Some-as_str.ensures)) c.text.ensures
