use Rattle.std.proofs.Common.{sym, ap, ◌∙◌, map, append-nil}
use Rattle.hp_model.specs.Soundness.{Answer}
use Rattle.hp_model.specs.Transactions.{done}
use Rattle.hp_rule.specs.Mapped.{task, detached}
use Rattle.hp_fire.proofs.course.Course.add.Goals as goal

pub returns : goal.returns
returns c i =
    let put = c.in_ok-put.ensures in
    record {
      end = done;
      queued = (ap (λ (a : Answer). a.queued) put ∙ sym (append-nil (map task c.args.self.now.queued.items))) i;
      detached = (ap (λ (a : Answer). a.detached) put ∙ sym (append-nil (map detached c.args.self.now.detached.items))) i;
      items = ap (λ (a : Answer). a.items) put i;
    }
