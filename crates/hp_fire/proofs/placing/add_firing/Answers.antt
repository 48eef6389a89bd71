use Rattle.std.proofs.Common.{◌∙◌, ap, sym, map, ◌++◌, append-nil}
use Rattle.std.proofs.lemmas.List.{map-append}
use Rattle.hp_model.specs.Tree.{append}
use Rattle.hp_model.proofs.Faithful.{append-none}
use Rattle.hp_rule.specs.Mapped.{task, detached}
use Rattle.hp_tree.specs.Mapped.{items_in}
use Rattle.hp_fire.specs.Mapped.{end}
use Rattle.hp_fire.proofs.Trees.{items-append}
use Rattle.hp_fire.proofs.placing.add_firing.Goals as goal

pub returns : goal.returns
returns c i = record {
  end = end c.args.course.now.end;
  queued =
      (ap (map task) c.in_ok-append.ensures.items ∙ map-append task c.args.course.now.queued.items c.args.outcome.queued.items
      ∙ ap (λ ts. map task c.args.course.now.queued.items ++ ts) (sym (append-nil (map task c.args.outcome.queued.items)))) i;
  detached =
      (ap (map detached) c.in_ok-append-2.ensures.items ∙ map-append detached c.args.course.now.detached.items c.args.outcome.detached.items
      ∙ ap (λ ds. map detached c.args.course.now.detached.items ++ ds) (sym (append-nil (map detached c.args.outcome.detached.items)))) i;
  items =
      (ap items_in c.in_ok-append-3.ensures.items ∙ items-append c.args.course.now.items.items c.args.outcome.tree.items
      ∙ ap (append (items_in c.args.course.now.items.items)) (sym (append-none (items_in c.args.outcome.tree.items)))) i;
}
