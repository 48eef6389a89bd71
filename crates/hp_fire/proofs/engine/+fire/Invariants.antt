use denote.Param.Weighed.{most}
use Rattle.std.proofs.Common.{◌+◌, ◌*◌, max, drop, map}
use Rattle.hp_model.specs.Transactions.{for_each}
use Rattle.hp_model.specs.Firing.{level_at, run_statement, run_body, with_row}
use Rattle.hp_value.specs.Mapped.{keyed_row}
use Rattle.hp_rule.specs.declared.stmt.Stmt.{size-Stmt}
use Rattle.hp_rule.specs.Mapped.{library, statement, body_in}
use Rattle.hp_fire.specs.Mapped.{context, course}
use Rattle.hp_fire.specs.Weights.{deepest, levels, left}
use Rattle.hp_fire.specs.Runs.{Appends}
use Rattle.hp_fire.proofs.Steps.{Loop}
use Rattle.hp_fire.proofs.engine.+fire.Given as goal

-- ---- what each call has less of

abbrev pub decreases-Engine::statement : goal.decreases-Engine::statement
decreases-Engine::statement g l = 16 * left l.self.now.lib.now (levels l.self.now.lib.now l.context.now.depth) (goal.size-Engine::statement g l)

abbrev pub decreases-Engine::statements : goal.decreases-Engine::statements
decreases-Engine::statements g l = 16 * left l.self.now.lib.now (levels l.self.now.lib.now l.context.now.depth) (goal.size-Engine::statements g l) + 2

abbrev pub decreases-Engine::in_order : goal.decreases-Engine::in_order
decreases-Engine::in_order g l = 16 * left l.self.now.lib.now (levels l.self.now.lib.now l.context.now.depth) (goal.size-Engine::in_order g l) + 1

abbrev pub decreases-Engine::each_row : goal.decreases-Engine::each_row
decreases-Engine::each_row g l = 16 * left l.self.now.lib.now (levels l.self.now.lib.now l.context.now.depth) (goal.size-Engine::each_row g l) + 3

abbrev pub decreases-Engine::run_branch : goal.decreases-Engine::run_branch
decreases-Engine::run_branch g l = 16 * left l.self.now.lib.now (levels l.self.now.lib.now l.context.now.depth) (max (most size-Stmt l.then_body.now) (most size-Stmt l.else_body.now)) + 3

abbrev pub decreases-Engine::each_found : goal.decreases-Engine::each_found
decreases-Engine::each_found g l = 16 * left l.self.now.lib.now (levels l.self.now.lib.now l.context.now.depth) (most size-Stmt l.body.now) + 4

abbrev pub decreases-Engine::with_object : goal.decreases-Engine::with_object
decreases-Engine::with_object g l = 16 * left l.self.now.lib.now (levels l.self.now.lib.now l.context.now.depth) (most size-Stmt l.body.now) + 3

abbrev pub decreases-Engine::with_let : goal.decreases-Engine::with_let
decreases-Engine::with_let g l = 16 * left l.self.now.lib.now (levels l.self.now.lib.now l.context.now.depth) (most size-Stmt l.body.now) + 3

abbrev pub decreases-Engine::sub_or_otherwise : goal.decreases-Engine::sub_or_otherwise
decreases-Engine::sub_or_otherwise g l = 16 * left l.self.now.lib.now (levels l.self.now.lib.now l.context.now.depth) (max (most size-Stmt l.body.now) (most size-Stmt l.otherwise.now)) + 4

abbrev pub decreases-Engine::signal_event : goal.decreases-Engine::signal_event
decreases-Engine::signal_event g l = 16 * left l.self.now.lib.now (levels l.self.now.lib.now l.context.now.depth) 0 + 3

abbrev pub decreases-Engine::start : goal.decreases-Engine::start
decreases-Engine::start g l = 16 * left l.self.now.lib.now (levels l.self.now.lib.now l.depth) 0 + 1

abbrev pub decreases-Engine::fire_group : goal.decreases-Engine::fire_group
decreases-Engine::fire_group g l = 16 * left l.self.now.lib.now l.nested (deepest l.self.now.lib.now) + 13

abbrev pub decreases-Engine::fire_group-fire : goal.decreases-Engine::fire_group-fire
decreases-Engine::fire_group-fire g l = 16 * left l.self.now.lib.now l.nested (deepest l.self.now.lib.now) + 12

abbrev pub decreases-Engine::fire_task : goal.decreases-Engine::fire_task
decreases-Engine::fire_task g l = 16 * left l.self.now.lib.now (levels l.self.now.lib.now l.task.now.depth) (deepest l.self.now.lib.now) + 4

abbrev pub decreases-Engine::fire_in : goal.decreases-Engine::fire_in
decreases-Engine::fire_in g l = 16 * left l.self.now.lib.now (levels l.self.now.lib.now l.task.now.depth) (deepest l.self.now.lib.now) + 3

-- ---- loops

abbrev pub invariant-Engine::in_order-loop-stmt : goal.invariant-Engine::in_order-loop-stmt
invariant-Engine::in_order-loop-stmt g l =
    Appends (Loop (library l.self.lib.now) (λ s. run_statement (statement s) (level_at (library l.self.lib.now) l.context.env.time l.context.depth) (context l.context))
    (run_body (body_in l.body) (level_at (library l.self.lib.now) l.context.env.time l.context.depth) (context l.context)) (drop l.stmt-index l.body) l.fn.view l.view)
    (course l.fn.course) (course l.course)

abbrev pub invariant-Engine::each_row-loop-row : goal.invariant-Engine::each_row-loop-row
invariant-Engine::each_row-loop-row g l =
    Appends (Loop (library l.self.lib.now) (λ r. run_body (body_in l.body) (level_at (library l.self.lib.now) l.context.env.time l.context.depth) (with_row l.variable r (context l.context)))
    (for_each (map keyed_row l.rows) (λ r. run_body (body_in l.body) (level_at (library l.self.lib.now) l.context.env.time l.context.depth) (with_row l.variable r (context l.context))))
    (map keyed_row (drop l.row-index l.rows)) l.fn.view l.view)
    (course l.fn.course) (course l.course)
