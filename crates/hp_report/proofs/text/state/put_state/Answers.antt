use Rattle.std.proofs.Common.{◌∙◌, ◌++◌, ap, map, string_bytes}
use Rattle.hp_model.specs.Report.{rules_text}
use Rattle.hp_store.specs.Stack.{cells_in}
use Rattle.hp_report.specs.Mapped as model
use Rattle.hp_report.proofs.Endings.{where_ok, state_put}
use Rattle.hp_report.proofs.text.state.put_state.Goals as goal

pub returns : goal.returns
returns c =
    let lib = model.library c.args.library.now in
    let start = string_bytes c.put_all_objects.new.out in
    where_ok c.put_rules.result (λ gained. state_put lib (cells_in c.args.store.now) c.in_ok-statuses.statuses.items c.args.out.now c.put_all_objects.new.out c.put_rules.new.out
    c.in_ok-put_all_objects.ensures c.in_ok-statuses.ensures
    (gained ∙ ap (λ rs. start ++ rules_text rs (map model.rule_state c.deref.result.now)) c.rules.ensures
    ∙ ap (λ ss. start ++ rules_text lib.rules (map model.rule_state ss)) c.deref.ensures.value))
    c.put_rules.ensures
