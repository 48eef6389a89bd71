use Rattle.std.proofs.Common.{sym, map, append-nil}
use Rattle.hp_model.proofs.Faithful.{append-none}
use Rattle.hp_rule.specs.Mapped.{task, detached}
use Rattle.hp_tree.specs.Mapped.{items_in}
use Rattle.hp_fire.specs.Mapped.{end}
use Rattle.hp_fire.proofs.course.Course.end_with.Goals as goal

pub returns : goal.returns
returns c i = record {
  end = end c.args.how;
  queued = sym (append-nil (map task c.args.self.now.queued.items)) i;
  detached = sym (append-nil (map detached c.args.self.now.detached.items)) i;
  items = sym (append-none (items_in c.args.self.now.items.items)) i;
}
