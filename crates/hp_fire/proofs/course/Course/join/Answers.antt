use Rattle.std.proofs.Common.{◌∙◌, ◌++◌, ap, sym, map}
use Rattle.hp_model.specs.Tree.{append}
use Rattle.std.proofs.lemmas.List.{map-append}
use Rattle.hp_rule.specs.Mapped.{task, detached}
use Rattle.hp_tree.specs.Mapped.{items_in}
use Rattle.hp_fire.specs.Mapped.{end}
use Rattle.hp_fire.proofs.Trees.{items-append}
use Rattle.hp_fire.proofs.course.Course.join.Goals as goal

pub returns : goal.returns
returns c i = record {
  end = end c.args.more.end;
  queued = (ap (map task) c.in_ok-append.ensures.items ∙ map-append task c.args.self.now.queued.items c.args.more.queued.items) i;
  detached = (ap (map detached) c.in_ok-append-2.ensures.items ∙ map-append detached c.args.self.now.detached.items c.args.more.detached.items) i;
  items = (ap items_in c.in_ok-append-3.ensures.items ∙ items-append c.args.self.now.items.items c.args.more.items.items) i;
}

pub returns-then-is_blank : goal.returns-then-is_blank
returns-then-is_blank c i =
    let blank = c.is_blank.ensures c.if-is_blank.true in
    record {
      end = end c.args.more.end;
      queued = ap (λ ts. map task ts ++ map task c.args.more.queued.items) (sym blank.0) i;
      detached = ap (λ ds. map detached ds ++ map detached c.args.more.detached.items) (sym blank.1) i;
      items = ap (λ is. append (items_in is) (items_in c.args.more.items.items)) (sym blank.2) i;
    }
