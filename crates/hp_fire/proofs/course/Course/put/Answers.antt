use Rattle.std.proofs.Common.{◌++◌, ◌∷◌, [], ap, ◌∙◌, map}
use Rattle.hp_rule.specs.Mapped.{task, detached}
use Rattle.hp_tree.specs.Mapped.{items_in}
use Rattle.hp_fire.specs.Mapped.{end}
use Rattle.hp_fire.proofs.Trees.{items-append}
use Rattle.hp_fire.proofs.course.Course.put.Goals as goal

pub returns : goal.returns
returns c = λ i. record {
  end = end c.args.self.now.end;
  queued = map task c.args.self.now.queued.items;
  detached = map detached c.args.self.now.detached.items;
  items = (ap items_in (c.in_ok-push.ensures.items ∙ ap (λ is. is ++ c.args.item ∷ []) c.make_room.ensures.items)
      ∙ items-append c.args.self.now.items.items (c.args.item ∷ [])) i;
}
