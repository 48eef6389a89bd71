use Rattle.std.proofs.Common.{◌∙◌, ap, subst}
use Rattle.std.proofs.lemmas.Result.{on_ok_weaker}
use Rattle.hp_model.specs.Rules.{rule_at}
use Rattle.hp_model.specs.Transactions.{End}
use Rattle.hp_model.specs.Soundness.{Answer}
use Rattle.hp_model.specs.Firing.{level_at, end_of, action_veto}
use Rattle.hp_model.specs.Answers.{followed, closing_action}
use Rattle.hp_rule.specs.Mapped.{library, task}
use Rattle.hp_tree.specs.Mapped.{what}
use Rattle.hp_fire.specs.Runs.{Closes}
use Rattle.hp_fire.proofs.Adding.{closing_alone}
use Rattle.hp_fire.proofs.Steps.{closes_action}
use Rattle.hp_fire.proofs.engine.Engine.close_action.Goals as goal

pub returns : goal.returns
returns g c =
    let lib = library c.args.self.now.lib.now in
    let t = task c.args.task.now in
    let closed = (rule_at lib t.rule).closed in
    on_ok_weaker c.end_part.result
    (λ added found first outer a part runs at.
    let ends = ap (λ (x : Answer). x.end) part.is in
    let as_alone = closing_alone (what c.args.what) closed t.rule a _ (c.stopped_by.ensures ∙ ap end_of c.in_ok-veto.ensures ∙ ap (λ e. end_of (action_veto closed t.rule e)) ends) in
    record {
      answer = closing_action (what c.args.what) closed t.rule a;
      runs = closes_action (what c.args.what) (level_at lib t.now t.depth) t found runs
          (subst (λ (e : End). Closes first c.args.view.now c.end_transaction.new.view e) ends (c.in_ok-end_transaction.ensures.closes first runs.goes_on at));
      added = added outer a part ∙ ap (followed outer) as_alone;
    })
    c.end_part.ensures
