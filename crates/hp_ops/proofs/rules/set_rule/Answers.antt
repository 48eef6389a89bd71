use Rattle.std.proofs.Common.{rules, ◌≡◌, Some, None, Ok, Err, subst}
use Rattle.std.specs.Prelude.{slice_get}
use Rattle.hp_value.specs.Mapped.{cause}
use Rattle.hp_value.specs.declared.halt.Halt.TheVariants.{Cause as ByCause}
use Rattle.hp_model.specs.Operations as model
use Rattle.hp_rule.specs.Mapped.{library, rule as rule_of, rule_operation}
use Rattle.hp_ops.specs.Performs.{Performs, status_of}
use Rattle.hp_ops.proofs.Ruling.{set_refused, set_kept, set_unknown, set_made}
use Rattle.hp_ops.proofs.rules.set_rule.Goals as goal

pub returns-in_err-new-clause-operation : goal.returns-in_err-new-clause-operation
returns-in_err-new-clause-operation c =
    let raised : Err (ByCause c.in_err-new.field-0.0) ≡ c.from_residual-in_err-new.result = search rules in
    let is : model.new_status (rule_operation c.args.operation) (status_of c.in_ok-status.status) ≡ Err (cause c.in_err-new.field-0.0) = search rules in
    subst (Performs (λ _. tt) (library c.args.lib.now) (model.set_rule (rule_operation c.args.operation) c.args.rule) c.args.view.now c.find_status.new.view) raised
    (set_refused (library c.args.lib.now) (rule_operation c.args.operation) c.args.rule c.args.view.now c.find_status.new.view (status_of c.in_ok-status.status)
    c.in_ok-status.ensures.only (c.in_ok-status.ensures.finds (library c.args.lib.now)) is)

pub returns-in_default-clause-operation : goal.returns-in_default-clause-operation
returns-in_default-clause-operation c =
    let is : model.new_status (rule_operation c.args.operation) (status_of c.in_ok-status.status) ≡ Ok None = search rules in
    set_kept (library c.args.lib.now) (rule_operation c.args.operation) c.args.rule c.args.view.now c.find_status.new.view (status_of c.in_ok-status.status)
    c.in_ok-status.ensures.only (c.in_ok-status.ensures.finds (library c.args.lib.now)) is

pub returns-in_default-rule-clause-operation : goal.returns-in_default-rule-clause-operation
returns-in_default-rule-clause-operation c =
    let is : model.new_status (rule_operation c.args.operation) (status_of c.in_ok-status.status) ≡ Ok (Some (status_of c.in-Some.new)) = search rules in
    let none : slice_get (library c.args.lib.now).rules c.args.rule ≡ None = search rules in
    set_unknown (library c.args.lib.now) (rule_operation c.args.operation) c.args.rule c.args.view.now c.find_status.new.view (status_of c.in_ok-status.status)
    c.in_ok-status.ensures.only (c.in_ok-status.ensures.finds (library c.args.lib.now)) (status_of c.in-Some.new) none is

pub returns-clause-operation : goal.returns-clause-operation
returns-clause-operation c =
    let is : model.new_status (rule_operation c.args.operation) (status_of c.in_ok-status.status) ≡ Ok (Some (status_of c.in-Some.new)) = search rules in
    let there : slice_get (library c.args.lib.now).rules c.args.rule ≡ Some (rule_of c.in-Some-rule.known.now) = search rules in
    set_made (library c.args.lib.now) (rule_operation c.args.operation) c.args.rule c.args.view.now c.find_status.new.view (status_of c.in_ok-status.status)
    c.in_ok-status.ensures.only (c.in_ok-status.ensures.finds (library c.args.lib.now))
    c.take_in.new.self (rule_of c.in-Some-rule.known.now) c.in_ok-layer.layer (status_of c.in-Some.new) there is c.in_ok-layer.ensures c.in_ok-take_in.ensures.ok
