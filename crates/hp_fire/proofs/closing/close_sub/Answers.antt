use Rattle.std.proofs.Common.{refl, ap, subst}
use Rattle.hp_model.specs.Tree.{sub_node}
use Rattle.hp_model.specs.Transactions.{End}
use Rattle.hp_model.specs.Soundness.{Answer}
use Rattle.hp_model.specs.Answers.{closing}
use Rattle.hp_fire.specs.Mapped.{end}
use Rattle.hp_fire.specs.Runs.{Closes, SubGoesOn}
use Rattle.hp_fire.proofs.Steps.{sub_closes}
use Rattle.hp_fire.proofs.closing.close_sub.Goals as goal

pub returns : goal.returns
returns c = λ library f first outer a part runs at.
    let ends = ap (λ (x : Answer). x.end) part.is in
    record {
      answer = closing sub_node a (end c.in_ok-after.after);
      is = sub_closes (end c.in_ok-after.after) c.in_ok-after.aborted
          (subst (λ (e : End). SubGoesOn e (end c.in_ok-after.after) c.in_ok-after.aborted) ends c.in_ok-after.ensures) refl runs
          (subst (λ (e : End). Closes first c.args.view.now c.end_transaction.new.view e) ends (c.in_ok-end_transaction.ensures.closes first runs.goes_on at));
      added = c.in_ok-end_part.ensures outer a part;
    }
