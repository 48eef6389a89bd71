use Rattle.std.proofs.Common.{sym}
use Rattle.serde_json.specs.View.{view}
use Rattle.hp_print.proofs.Chains.{onward}
use Rattle.hp_model.specs.NotationPrint.{statement_pieces}
use Rattle.hp_print.proofs.Operations.{on_rule_form, other_statement}
use Rattle.hp_print.proofs.statement.of_one.Goals as goal

pub returns-in-Some : goal.returns-in-Some
returns-in-Some c = onward c.on_rule.result c.args.w.now c.on_rule.new.w (λ s. statement_pieces s c.args.depth) _ _
    (on_rule_form c.args.word.now _ (view c.args.part.now) (sym c.in-Some.ensures)) c.on_rule.ensures

pub returns-in-None : goal.returns-in-None
returns-in-None c = onward c.of_expression.result c.args.w.now c.of_expression.new.w (λ s. statement_pieces s c.args.depth) _ _
    (other_statement c.args.word.now (view c.args.part.now) (sym c.in-None.ensures)) c.of_expression.ensures
