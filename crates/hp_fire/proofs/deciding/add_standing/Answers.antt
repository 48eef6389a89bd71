use Rattle.std.proofs.Common.{sym, ap, ◌∙◌, ◌++◌, map, append-nil}
use Rattle.std.proofs.lemmas.List.{map-append}
use Rattle.std.proofs.lemmas.Result.{on_ok_weaker}
use Rattle.hp_model.specs.Tree as T
use Rattle.hp_rule.specs.Mapped.{task, detached}
use Rattle.hp_tree.specs.Mapped.{what, items_in}
use Rattle.hp_fire.proofs.deciding.add_standing.Goals as goal

pub returns : goal.returns
returns c = on_ok_weaker c.put.result (λ put. put ∙ (λ i. record {
  end = c.stopped_by.ensures i;
  queued = (ap (map task) c.in_ok-append.ensures.items ∙ map-append task c.args.course.now.queued.items c.args.over.queued.items
      ∙ ap (λ ts. map task c.args.course.now.queued.items ++ ts) (sym (append-nil (map task c.args.over.queued.items)))) i;
  detached = (ap (map detached) c.in_ok-append-2.ensures.items ∙ map-append detached c.args.course.now.detached.items c.args.over.detached.items
      ∙ ap (λ ds. map detached c.args.course.now.detached.items ++ ds) (sym (append-nil (map detached c.args.over.detached.items)))) i;
  items = T.append (items_in c.args.course.now.items.items)
      ((c.node_of.ensures ∙ ap (λ is. T.node (what c.args.over.what) T.committed (items_in is) T.no_items) c.new.ensures.items) i);
}))
    c.put.ensures
