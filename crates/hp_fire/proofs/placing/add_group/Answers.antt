use Rattle.std.proofs.Common.{rules, ◌≡◌, ap, sym, ◌∙◌, [], ◌∷◌, ◌++◌, map, length}
use Rattle.hp_model.specs.Tree.{append}
use Rattle.hp_model.specs.Answers.{queued_in, detached_in, items_in}
use Rattle.hp_attempt.specs.Mapped.{firing}
use Rattle.hp_fire.specs.Joined.{with_firings}
use Rattle.hp_fire.specs.Mapped.{course}
use Rattle.hp_fire.proofs.Starting.{none_long}
use Rattle.hp_fire.proofs.Trees.{firings_more, firings_none}
use Rattle.hp_fire.proofs.placing.add_group.Goals as goal

pub loop-outcome-init : goal.loop-outcome-init
loop-outcome-init c =
    let all : c.into_iter-outcome-iterator.result.rest.items ≡ c.args.group.outcomes.items = search rules in
    (λ i. record {
      end = c.stopped_by.ensures i;
      queued = (course c.args.course.now).queued ++ queued_in (map firing (all i));
      detached = (course c.args.course.now).detached ++ detached_in (map firing (all i));
      items = append (course c.args.course.now).items (items_in (map firing (all i)));
    })

pub loop-outcome-preserved : goal.loop-outcome-preserved
loop-outcome-preserved c =
    let rest : c.loop-outcome.outcome-iterator.rest.items ≡ c.in-Some.outcome ∷ c.next.new.self.rest.items = search rules in
    let later = map firing c.next.new.self.rest.items in
    ap (λ a. with_firings a later) c.in_ok-add_firing.ensures ∙ firings_more (course c.loop-outcome.course) (firing c.in-Some.outcome) later
    ∙ ap (λ xs. with_firings (course c.loop-outcome.course) (map firing xs)) (sym rest) ∙ c.loop-outcome.invariant

pub returns : goal.returns
returns c =
    let long : length c.loop-outcome.outcome-iterator.rest.items ≡ c.loop-outcome.outcome-iterator.rest.len = search rules in
    let over : c.loop-outcome.outcome-iterator.rest.items ≡ [] = none_long _ (long ∙ c.in-None.ensures.steps.0) in
    sym (firings_none (course c.loop-outcome.course)) ∙ ap (λ xs. with_firings (course c.loop-outcome.course) (map firing xs)) (sym over) ∙ c.loop-outcome.invariant
