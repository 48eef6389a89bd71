use Rattle.std.proofs.Common.{sym}
use Rattle.serde_json.specs.View.{view}
use Rattle.hp_print.proofs.Levels.{form_level_one, form_level_operation, form_level_other, form_level_more}
use Rattle.hp_print.proofs.level.level_of_form.Goals as goal

pub returns-in_default-word : goal.returns-in_default-word
returns-in_default-word c operand = form_level_one view operand _ _ c.in-len1.len_at_least c.in-len1.len_below c.in_default-word.not-not c.in_default-word.not-neg

pub returns-in-Some : goal.returns-in-Some
returns-in-Some c operand = form_level_operation view operand c.args.form.word.now _ _ c.args.form.parts.now c.in-len2.len_at_least c.in-len2.len_below (sym c.in-Some.ensures) c.level.ensures

pub returns-in-None : goal.returns-in-None
returns-in-None c operand = form_level_other view operand c.args.form.word.now c.args.form.parts.now c.in-len2.len_at_least c.in-len2.len_below (sym c.in-None.ensures)

pub returns-in_default-2 : goal.returns-in_default-2
returns-in_default-2 c operand = form_level_more view operand c.args.form.word.now c.args.form.parts.now c.in_default.len_at_least
