use Rattle.std.proofs.Common.{sym, subst}
use Rattle.hp_model.specs.Occurrences.{moment_reached}
use Rattle.hp_model.specs.Firing.{run_body, signal_in, level_at}
use Rattle.hp_model.specs.Cascade.{now_in, top, unit_work, no_context}
use Rattle.hp_rule.specs.Mapped.{library, unit, body}
use Rattle.hp_fire.specs.Mapped.{course}
use Rattle.hp_fire.specs.Runs.{Runs}
use Rattle.hp_top.specs.Mapped.{top_of}
use Rattle.hp_top.specs.Runs.{RunsTop}
use Rattle.hp_top.proofs.runner.Runner.run_top.Goals as goal

pub returns-in_ok-top-in-Transaction : goal.returns-in_ok-top-in-Transaction
returns-in_ok-top-in-Transaction g c =
    let L = library c.args.self.now.engine.lib.now in
    let b = body c.in-Transaction.body in
    let t = c.in-Transaction.time in
    let ran = subst (λ b. Runs L (run_body b (level_at L t 0) (no_context t)) c.args.view.now c.run_body.new.view (course c.in_ok-course-in-Transaction.course))
    c.statements.ensures c.in_ok-course-in-Transaction.ensures in
    subst (λ u. RunsTop L (top L (now_in (unit u)) 0 (unit_work L (unit u))) c.args.view.now c.finish.new.view (top_of c.in_ok-top-in-Transaction.top)) (sym c.in-Transaction.is)
    (c.in_ok-top-in-Transaction.ensures.runs c.args.view.now (run_body b (level_at L t 0) (no_context t)) (sym c.enter-mark.ensures) ran)

pub returns-in_ok-top-in-Moment : goal.returns-in_ok-top-in-Moment
returns-in_ok-top-in-Moment g c =
    let L = library c.args.self.now.engine.lib.now in
    subst (λ u. RunsTop L (top L (now_in (unit u)) 0 (unit_work L (unit u))) c.args.view.now c.finish-in-Moment.new.view (top_of c.in_ok-top-in-Moment.top)) (sym c.in-Moment.is)
    (c.in_ok-top-in-Moment.ensures.runs c.args.view.now (signal_in (level_at L c.in-Moment.time 0) (moment_reached c.in-Moment.time)) (sym c.enter-mark.ensures) c.in_ok-course-in-Moment.ensures)
