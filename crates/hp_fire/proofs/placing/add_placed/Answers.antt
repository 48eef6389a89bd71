use Rattle.std.proofs.Common.{◌∙◌, ap, sym, map}
use Rattle.std.proofs.lemmas.List.{map-append}
use Rattle.std.proofs.lemmas.Result.{on_ok_weaker}
use Rattle.hp_model.specs.Soundness.{Answer}
use Rattle.hp_model.specs.Transactions.{done}
use Rattle.hp_model.specs.Tree.{no_items}
use Rattle.hp_model.specs.Answers.{followed, group_answer}
use Rattle.hp_model.proofs.Faithful.{followed-assoc, append-none}
use Rattle.hp_rule.specs.Mapped.{task, detached}
use Rattle.hp_tree.specs.Mapped.{items_in}
use Rattle.hp_fire.specs.Mapped.{course, group}
use Rattle.hp_fire.proofs.placing.add_placed.Goals as goal

pub returns : goal.returns
returns c =
    let placed : Answer = record { end = done; queued = map task c.args.placed.queued.items; detached = map detached c.args.placed.detached.items; items = no_items } in
    let gives = group_answer (group c.args.group) in
    on_ok_weaker c.add_group.result
    (λ added. added
    ∙ (λ i. followed (record {
      end = done;
      queued = (ap (map task) c.in_ok-append.ensures.items ∙ map-append task c.args.course.now.queued.items c.args.placed.queued.items) i;
      detached =
          (ap (map detached) c.in_ok-append-2.ensures.items ∙ map-append detached c.args.course.now.detached.items c.args.placed.detached.items) i;
      items = sym (append-none (items_in c.args.course.now.items.items)) i;
    }) gives)
    ∙ followed-assoc (course c.args.course.now) placed gives)
    c.add_group.ensures
