use Rattle.std.proofs.Common.{sym, ap, subst}
use Rattle.hp_model.specs.Occurrences.{commit_reached}
use Rattle.hp_model.specs.Transactions.{then_do}
use Rattle.hp_model.specs.Firing.{level_at, signal_in}
use Rattle.hp_model.specs.Answers.{is_done}
use Rattle.hp_rule.specs.Mapped.{library}
use Rattle.hp_fire.specs.Mapped.{course, end}
use Rattle.hp_top.specs.Runs.{Continues}
use Rattle.hp_top.proofs.Coursing.{continues_done, continues_halted}
use Rattle.hp_top.proofs.runner.Runner.signal_commit.Goals as goal

pub returns-in_ok-join-in-Done : goal.returns-in_ok-join-in-Done
returns-in_ok-join-in-Done g c =
    let L = library c.args.self.now.engine.lib.now in
    let next = signal_in (level_at L c.args.time c.args.depth) commit_reached in
    subst (λ a. Continues L (λ work S. then_do (work S) next) c.args.view.now c.run_signal.new.view (course c.args.begun) a) (sym c.in_ok-join-in-Done.ensures)
    (continues_done next (ap end c.in-Done.is) c.in_ok-commit-in-Done.ensures)

pub returns-in-Abort : goal.returns-in-Abort
returns-in-Abort g c = continues_halted (signal_in (level_at (library c.args.self.now.engine.lib.now) c.args.time c.args.depth) commit_reached) (ap (λ e. is_done (end e)) c.in-Abort.is)

pub returns-in-Vetoed : goal.returns-in-Vetoed
returns-in-Vetoed g c = continues_halted (signal_in (level_at (library c.args.self.now.engine.lib.now) c.args.time c.args.depth) commit_reached) (ap (λ e. is_done (end e)) c.in-Vetoed.is)

pub returns-in-Veto : goal.returns-in-Veto
returns-in-Veto g c = continues_halted (signal_in (level_at (library c.args.self.now.engine.lib.now) c.args.time c.args.depth) commit_reached) (ap (λ e. is_done (end e)) c.in-Veto.is)
