use Rattle.std.proofs.lemmas.Result.{err_from_is_err_and}
use Rattle.hp_model.specs.Tree.{operation, rule_op, no_items}
use Rattle.hp_model.specs.Answers.{tells}
use Rattle.hp_value.specs.Mapped.{rule_operation}
use Rattle.hp_rule.specs.Mapped.{library}
use Rattle.hp_fire.specs.Mapped.{course}
use Rattle.hp_fire.proofs.Making.{rule_halt, rule_runs}
use Rattle.hp_fire.proofs.engine.Engine.change_rule.Goals as goal

pub returns-in_err-set_rule : goal.returns-in_err-set_rule
returns-in_err-set_rule g c = λ level context.
    let p = err_from_is_err_and c.from_residual.result c.from_residual.ensures.1 in
    rw (p.1, p.2)
    (rule_halt (course c.args.course.now) (library c.args.self.now.lib.now) level context (rule_operation c.args.operation) c.args.rule c.in_err-set_rule.field-0.0 c.args.view.now
    c.set_rule.new.view c.set_rule.ensures.goes_on c.in_err-set_rule.ensures.operation)

pub returns : goal.returns
returns g c = λ level context. record {
  answer = tells (operation (rule_op (rule_operation c.args.operation) c.args.rule) no_items);
  is = rule_runs (library c.args.self.now.lib.now) level context (rule_operation c.args.operation) c.args.rule c.args.view.now c.set_rule.new.view
      c.set_rule.ensures.goes_on c.in_ok-set_rule.ensures.operation;
  added = c.in_ok-add.ensures;
}
