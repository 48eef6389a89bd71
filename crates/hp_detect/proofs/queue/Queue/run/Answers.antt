use Rattle.std.proofs.Common.{◌++◌, ◌-◌, ap, ◌∙◌, sym, drop, length-drop}
use Rattle.hp_detect.specs.Ropes.{rest_laid_out}
use Rattle.hp_detect.proofs.Runs.{run_right}
use Rattle.hp_detect.proofs.queue.Queue.run.Goals as goal

pub returns-else-at-ahead : goal.returns-else-at-ahead
returns-else-at-ahead c =
    let q = c.self.inside in
    run_right _ c.args.self.now (drop q.taken q.head) (rest_laid_out q.middle ++ q.tail) c.args.at (c.len.result - q.taken) (sym c.self.view_is)
    (ap (λ n. n - q.taken) c.len.ensures ∙ sym (length-drop q.taken q.head)) c.if-at-ahead.false c.behind.ensures
