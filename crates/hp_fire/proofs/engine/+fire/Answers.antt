use Rattle.std.proofs.Common.{rules, arith, ℕ, ◌+◌, ◌≡◌, ◌<◌, ◌≤◌, refl, ap, sym, ◌∙◌, subst, [], ◌∷◌, map, length, true, false}
use Rattle.std.proofs.Common.{SFits, w64, of_z, to_z, Ok, Err}
use Rattle.std.specs.Prelude.{Result}
use Rattle.std.specs.Global.{Vec}
use Rattle.std.proofs.lemmas.Int.{to_z-of_z}
use Rattle.std.proofs.lemmas.Result.{err_from_is_err_and, on_ok_weaker}
use Rattle.std.proofs.Math.ListN.{drop_of_length-le}
use Rattle.hp_model.specs.Values.{KeyedRow, requested}
use Rattle.hp_model.specs.Conditions.{answer, let_of}
use Rattle.std.specs.Prelude.{filter}
use Rattle.hp_model.specs.Tree.{Task, no_items}
use Rattle.hp_model.specs.Transactions.{abort_by, deferred_of, detached_of, done, for_each, unreleased}
use Rattle.hp_model.specs.Answers.{is_done, ended, followed, placing, group_answer}
use Rattle.hp_model.specs.Rules as R
use Rattle.hp_model.specs.Rules.{Body, is_immediate, rule_at}
use Rattle.hp_model.specs.Firing.{level_at, run_statement, run_body, with_row, with_let, task_environment, action_context, action_course, signal_in, values_of, boolean_value}
use Rattle.hp_model.specs.Firing.{choose, named_object, siblings, fire_task}
use Rattle.hp_value.specs.Mapped.{keyed_row, value, expression, primitive, rule_operation}
use Rattle.hp_query.specs.Mapped.{aggregate, findings, keyed_rows}
use Rattle.hp_rule.specs.declared.stmt.Stmt.TheViews.{the_lemmas}
use Rattle.hp_rule.specs.Mapped.{library, statement, body_in, task, assignment}
use Rattle.hp_rule.proofs.Bodies.{row_body_lem}
use Rattle.hp_ops.proofs.Worlds.{split_at}
use Rattle.hp_fire.specs.Mapped.{context, course, group}
use Rattle.hp_tree.specs.Mapped.{what}
use Rattle.hp_query.specs.declared.entry.Findings.{Findings as RustFindings}
use Rattle.hp_fire.specs.declared.deciding.Decision.{Decision}
use Rattle.hp_fire.specs.declared.deciding.Decision.TheVariants.{Over, Acts}
use Rattle.hp_fire.specs.Joined.{alone}
use Rattle.hp_fire.specs.Decides.{ThenActs, Decides, standing_in}
use Rattle.hp_value.specs.declared.halt.Halt.{Halt}
use Rattle.hp_rule.specs.declared.library.Library.{Library as RustLibrary}
use Rattle.hp_rule.specs.declared.task.Task.{Task as RustTask}
use Rattle.hp_fire.specs.Statements.{TasksStart}
use Rattle.hp_fire.specs.Weights.{deepest, levels, left}
use Rattle.hp_fire.specs.Runs.{Runs, RunsFiring, RunsGroup, Appends, Steps, Made, Makes, SubRuns}
use Rattle.hp_fire.proofs.Decisions.{acts_runs}
use Rattle.hp_fire.proofs.Making.{steps_halt}
use Rattle.hp_fire.proofs.Adding.{appends_as, appends_then, part_begins}
use Rattle.hp_fire.proofs.Stating.{with_is, veto_is, findings_now, body_under, steps_at, signal_makes, signal_adds, made_halt, start_halt, found_adds, found_halt, found_steps}
use Rattle.hp_fire.proofs.Steps.{runs_ends, runs_value, sub_over, sub_then, body_each, loop_starts, loop_next, loop_stops, loop_ends, lone_runs}
use Rattle.hp_fire.proofs.Starting.{signal_starts, signal_ready, then_starts, are_ready, start_none, start_single, single_measure, start_runs, group_measure, none_long, map_none, tasks_nest}
use Rattle.hp_fire.proofs.engine.+fire.Goals as goal

-- ---- a lone statement

pub Engine::statements-returns-in-len1 : goal.Engine::statements-returns-in-len1
Engine::statements-returns-in-len1 g t c =
    let lib = library c.args.self.now.lib.now in
    let level = level_at lib c.args.context.now.env.time c.args.context.now.depth in
    let some : 0 < length c.args.body.now = omega (arith, c.in-len1.len_at_least) in
    let short : length c.args.body.now ≤ 1 = omega (arith, c.in-len1.len_below) in
    let only = split_at c.args.body.now 0 c.only-item.result some c.only-item.is ∙ ap (λ ss. c.only-item.result ∷ ss) (drop_of_length-le c.args.body.now short) in
    on_ok_weaker c.or_aborted.result
    (λ ends. appends_as (λ a runs. lone_runs level (context c.args.context.now) c.args.body.now c.only-item.result a only runs)
    (ends lib _ c.args.view.now c.statement-given.new.view _ c.statement-given.ensures))
    c.or_aborted.ensures

-- ---- statements, one after another

pub Engine::in_order-loop-stmt-init : goal.Engine::in_order-loop-stmt-init
Engine::in_order-loop-stmt-init g t c = loop_starts c.args.body.now c.args.view.now c.end_with.ensures (body_each _ _ c.args.body.now)

pub Engine::in_order-loop-stmt-preserved : goal.Engine::in_order-loop-stmt-preserved
Engine::in_order-loop-stmt-preserved g t c =
    let goes : is_done (course c.or_aborted.new.course).end ≡ true = search rules in
    loop_next c.stmt-item.result (split_at c.args.body.now c.loop-stmt.stmt-index c.stmt-item.result c.loop-stmt-test.true c.stmt-item.is) goes c.loop-stmt.invariant
    (c.in_ok-or_aborted.ensures (library c.args.self.now.lib.now) _ c.loop-stmt.view c.statement-given.new.view _ c.statement-given.ensures)

pub Engine::in_order-returns-then-not-is_done : goal.Engine::in_order-returns-then-not-is_done
Engine::in_order-returns-then-not-is_done g t c =
    let stops : is_done (course c.or_aborted.new.course).end ≡ false = search rules in
    loop_stops c.stmt-item.result (split_at c.args.body.now c.loop-stmt.stmt-index c.stmt-item.result c.loop-stmt-test.true c.stmt-item.is) stops c.loop-stmt.invariant
    (c.in_ok-or_aborted.ensures (library c.args.self.now.lib.now) _ c.loop-stmt.view c.statement-given.new.view _ c.statement-given.ensures)

pub Engine::in_order-returns : goal.Engine::in_order-returns
Engine::in_order-returns g t c = loop_ends (drop_of_length-le c.args.body.now c.loop-stmt-test.false) c.loop-stmt.invariant

-- ---- rows, one after another

pub Engine::each_row-loop-row-init : goal.Engine::each_row-loop-row-init
Engine::each_row-loop-row-init g t c = loop_starts (map keyed_row c.args.rows.now) c.args.view.now c.end_with.ensures (λ S. refl)

pub Engine::each_row-loop-row-preserved : goal.Engine::each_row-loop-row-preserved
Engine::each_row-loop-row-preserved g t c =
    let fits : SFits w64 c.row-item.result.key = search rules in
    let back : to_z w64 (of_z w64 c.row-item.result.key) ≡ c.row-item.result.key = to_z-of_z w64 c.row-item.result.key fits in
    let goes : is_done (course c.statements.new.course).end ≡ true = search rules in
    loop_next (keyed_row c.row-item.result) (ap (map keyed_row) (split_at c.args.rows.now c.loop-row.row-index c.row-item.result c.loop-row-test.true c.row-item.is))
    goes c.loop-row.invariant
    (appends_as (λ a runs. body_under (body_in c.args.body.now) (c.bound-inner.ensures.context
    ∙ ap (λ k. with_row c.args.variable.now (record { key = k; row = c.row-item.result.row }) (context c.args.context.now)) back) c.bound-inner.ensures.depth runs) c.in_ok-statements.ensures)

pub Engine::each_row-returns-then-not-is_done : goal.Engine::each_row-returns-then-not-is_done
Engine::each_row-returns-then-not-is_done g t c =
    let fits : SFits w64 c.row-item.result.key = search rules in
    let back : to_z w64 (of_z w64 c.row-item.result.key) ≡ c.row-item.result.key = to_z-of_z w64 c.row-item.result.key fits in
    let stops : is_done (course c.statements.new.course).end ≡ false = search rules in
    loop_stops (keyed_row c.row-item.result) (ap (map keyed_row) (split_at c.args.rows.now c.loop-row.row-index c.row-item.result c.loop-row-test.true c.row-item.is))
    stops c.loop-row.invariant
    (appends_as (λ a runs. body_under (body_in c.args.body.now) (c.bound-inner.ensures.context
    ∙ ap (λ k. with_row c.args.variable.now (record { key = k; row = c.row-item.result.row }) (context c.args.context.now)) back) c.bound-inner.ensures.depth runs) c.in_ok-statements.ensures)

pub Engine::each_row-returns : goal.Engine::each_row-returns
Engine::each_row-returns g t c = loop_ends (ap (map keyed_row) (drop_of_length-le c.args.rows.now c.loop-row-test.false)) c.loop-row.invariant

-- ---- operations and actions

pub Engine::signal_event-returns-in_err-prim : goal.Engine::signal_event-returns-in_err-prim
Engine::signal_event-returns-in_err-prim g t c = λ work before made.
    let lib = library c.args.self.now.lib.now in
    let is : c.args.made ≡ Err c.in_err-prim.field-0.0 = search rules in
    let p = err_from_is_err_and c.from_residual.result c.from_residual.ensures.1 in
    rw (p.1, p.2)
    (made_halt (course c.args.course.now) primitive lib (level_at lib c.args.context.now.env.time c.args.context.now.depth) work before c.args.view.now c.in_err-prim.field-0.0
    (subst (Makes primitive lib (level_at lib c.args.context.now.env.time c.args.context.now.depth) work before c.args.view.now) is made))

pub Engine::signal_event-returns : goal.Engine::signal_event-returns
Engine::signal_event-returns g t c = λ work before made.
    let lib = library c.args.self.now.lib.now in
    let is : c.args.made ≡ Ok c.in_ok-prim.prim = search rules in
    let is_made : Made lib (level_at lib c.args.context.now.env.time c.args.context.now.depth) work before c.args.view.now (primitive c.in_ok-prim.prim) =
    subst (Makes primitive lib (level_at lib c.args.context.now.env.time c.args.context.now.depth) work before c.args.view.now) is made in
    let started = c.start-started.ensures (signal_in (level_at lib c.args.context.now.env.time c.args.context.now.depth) (primitive c.in_ok-prim.prim)) c.args.view.now
    (signal_starts c.args.self.now.lib.now c.args.context.now.env.time c.args.context.now.depth (primitive c.in_ok-prim.prim) c.args.view.now c.trigger-tasks.new.view
    c.trigger-tasks.result c.trigger-tasks.ensures.triggers c.trigger-tasks.ensures.goes_on) in
    signal_adds is_made c.in_ok-add_operation.ensures (c.in_ok-or_aborted.ensures lib _ c.args.view.now c.start-started.new.view _ started)

pub Engine::signal_event-start-started-requires : goal.Engine::signal_event-start-started-requires
Engine::signal_event-start-started-requires g t c = λ κs lives. (
  omega (arith, c.decreases),
  (
    lives,
    (
      search rules,
      signal_ready c.args.self.now.lib.now c.args.context.now.env.time c.args.context.now.depth
          (primitive c.in_ok-prim.prim) c.args.view.now c.trigger-tasks.new.view c.trigger-tasks.result c.trigger-tasks.ensures.triggers,
    ),
  ),
)

pub Engine::fire_task-returns : goal.Engine::fire_task-returns
Engine::fire_task-returns g t c =
    let fired = c.in_ok-fire_in.ensures in
    let alone_is : course c.fire_in.new.course ≡ alone fired.answer = fired.added ∙ ap (λ a. followed a (alone fired.answer)) c.ended-course.ensures in
    subst (λ f. RunsFiring (library c.args.self.now.lib.now) (λ S. fire_task (library c.args.self.now.lib.now) S (task c.args.task.now)) c.args.view.now c.fire_in.new.view f)
    (sym (c.into_outcome.ensures fired.answer alone_is)) fired.runs

pub Engine::fire_in-returns-in-Over : goal.Engine::fire_in-returns-in-Over
Engine::fire_in-returns-in-Over g t c =
    let lib = library c.args.self.now.lib.now in
    let fired = task c.args.task.now in
    let decided : Decides lib fired c.args.view.now c.decide.new.view (Over c.in-Over.over) =
    subst (λ (d : Decision). Decides lib fired c.args.view.now c.decide.new.view d) c.in-Over.is c.in_ok-over.ensures in
    on_ok_weaker c.add_standing.result (λ added. record { answer = standing_in c.in-Over.over; runs = decided; added = added }) c.add_standing.ensures

pub Engine::fire_in-returns-in_ok-statements-in-Acts : goal.Engine::fire_in-returns-in_ok-statements-in-Acts
Engine::fire_in-returns-in_ok-statements-in-Acts g t c =
    let lib = library c.args.self.now.lib.now in
    let fired = task c.args.task.now in
    let found = findings c.findings.result.now in
    let decided : Decides lib fired c.args.view.now c.decide.new.view (Acts c.in-Acts.what c.in-Acts.found) =
    subst (λ (d : Decision). Decides lib fired c.args.view.now c.decide.new.view d) c.in-Acts.is c.in_ok-over.ensures in
    let acts : ThenActs lib (λ S. fire_task lib S fired) fired c.args.view.now c.decide.new.view (what c.in-Acts.what) found =
    subst (λ (f : RustFindings). ThenActs lib (λ S. fire_task lib S fired) fired c.args.view.now c.decide.new.view (what c.in-Acts.what) (findings f)) (sym c.findings.ensures) decided in
    let action = (rule_at lib fired.rule).action in
    let acted = c.in_ok-statements-in-Acts.ensures in
    let part = part_begins c.begin_part-around.ensures.around c.begin_part-around.ensures.opened acted in
    let ran : Runs lib (run_body action (level_at lib c.of_action-context.result.env.time c.of_action-context.result.depth) (context c.of_action-context.result))
    c.decide.new.view c.statements.new.view acted.answer =
    subst (λ (b : Body). Runs lib (run_body b (level_at lib c.of_action-context.result.env.time c.of_action-context.result.depth) (context c.of_action-context.result))
    c.decide.new.view c.statements.new.view acted.answer) c.action_of-action.ensures.action acted.is in
    let here : Runs lib (action_course (level_at lib fired.now fired.depth) fired found) c.decide.new.view c.statements.new.view acted.answer =
    subst (λ n. Runs lib (run_body action (level_at lib n fired.depth) (action_context fired found)) c.decide.new.view c.statements.new.view acted.answer)
    (findings_now (task_environment fired) found)
    (body_under action c.of_action-context.ensures.context c.of_action-context.ensures.depth ran) in
    on_ok_weaker c.close_action.result
    (λ closes. let ends = closes found c.decide.new.view (course c.args.course.now) acted.answer part here (sym c.enter-mark.ensures) in
    record { answer = ends.answer; runs = acts_runs acts ends.runs; added = ends.added })
    c.close_action.ensures

-- ---- the tasks of signals

pub Engine::start-returns-in_err-tasks : goal.Engine::start-returns-in_err-tasks
Engine::start-returns-in_err-tasks g t c = λ work before starts.
    let is : c.args.tasks ≡ Err c.in_err-tasks.field-0.0 = search rules in
    let p = err_from_is_err_and c.from_residual.result c.from_residual.ensures.1 in
    rw (p.1, p.2)
    (start_halt (course c.args.course.now) c.args.self.now.lib.now c.args.depth work before c.args.view.now c.in_err-tasks.field-0.0
    (subst (λ (r : Result (Vec RustTask) Halt). TasksStart c.args.self.now.lib.now c.args.depth work before c.args.view.now r) is starts))

pub Engine::start-returns-then-is_empty : goal.Engine::start-returns-then-is_empty
Engine::start-returns-then-is_empty g t c = λ work before starts.
    let is : c.args.tasks ≡ Ok c.in_ok-tasks.tasks = search rules in
    let long : length c.in_ok-tasks.tasks.items ≡ c.in_ok-tasks.tasks.len = search rules in
    let zero : c.in_ok-tasks.tasks.len ≡ 0 = search rules in
    let none : c.in_ok-tasks.tasks.items ≡ [] = none_long c.in_ok-tasks.tasks.items (long ∙ zero) in
    record {
      answer = ended done;
      is = (then_starts c.args.self.now.lib.now c.args.depth work before c.args.view.now c.args.tasks c.in_ok-tasks.tasks is starts).then_runs
          (start_none (library c.args.self.now.lib.now) c.args.depth (ap (map task) none) c.args.view.now);
      added = c.end_with.ensures;
    }

pub Engine::start-fire_in-requires : goal.Engine::start-fire_in-requires
Engine::start-fire_in-requires g t c = λ κs lives.
    let is : c.args.tasks ≡ Ok c.in_ok-tasks.tasks = search rules in
    let ready = are_ready c.args.self.now.lib.now c.args.depth c.args.tasks c.in_ok-tasks.tasks is c.requires.tasks in
    (omega (arith, single_measure c.args.self.now.lib.now c.args.depth c.in_ok-tasks.tasks.items c.in-Ok.task ready (ap (map task) c.in-Ok.ensures.one.0), c.decreases), (lives, search rules))

pub Engine::start-returns-in-Ok : goal.Engine::start-returns-in-Ok
Engine::start-returns-in-Ok g t c = λ work before starts.
    let is : c.args.tasks ≡ Ok c.in_ok-tasks.tasks = search rules in
    let ready = are_ready c.args.self.now.lib.now c.args.depth c.args.tasks c.in_ok-tasks.tasks is c.requires.tasks in
    let fired = c.in_ok-fire_in-in-Ok.ensures in
    record {
      answer = alone fired.answer;
      is = (then_starts c.args.self.now.lib.now c.args.depth work before c.args.view.now c.args.tasks c.in_ok-tasks.tasks is starts).then_runs
          (start_single (map task c.in_ok-tasks.tasks.items) (task c.in-Ok.task) ready (ap (map task) c.in-Ok.ensures.one.0) c.in-Ok.ensures.one.1 fired.runs);
      added = fired.added;
    }

pub Engine::start-fire_group-requires : goal.Engine::start-fire_group-requires
Engine::start-fire_group-requires g t c = λ κs lives.
    let is : c.args.tasks ≡ Ok c.in_ok-tasks.tasks = search rules in
    let ready = are_ready c.args.self.now.lib.now c.args.depth c.args.tasks c.in_ok-tasks.tasks is c.requires.tasks in
    let long : length c.in_ok-tasks.tasks.items ≡ c.in_ok-tasks.tasks.len = search rules in
    let some : c.in_ok-tasks.tasks.items ≡ [] → ⊥ = λ e. let zero : c.in_ok-tasks.tasks.len ≡ 0 = sym long ∙ ap length e in search rules in
    let now : map task c.deref.result.now ≡ filter (λ (u : Task). is_immediate u.place) (map task c.in_ok-tasks.tasks.items) =
    ap (map task) c.deref.ensures.value ∙ c.in_ok-placed.ensures.immediate ∙ ap (λ ts. filter (λ (u : Task). is_immediate u.place) (map task ts)) c.in-Err.ensures.others in
    let nested : c.saturating_sub-nested.result ≡ levels c.args.self.now.lib.now (c.args.depth + 1) = omega (arith, c.depth_limit.ensures, c.saturating_sub.ensures, c.saturating_sub-nested.ensures) in
    let falls = group_measure c.args.self.now.lib.now c.args.depth c.saturating_sub-nested.result c.in_ok-tasks.tasks.items nested ready some in
    let nest = tasks_nest c.args.self.now.lib.now c.args.depth c.saturating_sub-nested.result nested c.in_ok-tasks.tasks.items c.deref.result.now ready now in
    (omega (arith, falls, c.decreases), (lives, (search rules, search (nest, rules))))

-- the same by another name of the library
less_by : (lib other : RustLibrary) (depth most : ℕ) → lib ≡ other → left other (levels other depth) (deepest other) ≤ most → left lib (levels lib depth) (deepest lib) ≤ most
less_by lib other depth most same less = subst (λ (l : RustLibrary). left l (levels l depth) (deepest l) ≤ most) (sym same) less

pub Engine::fire_group-fire-fire_task-requires : goal.Engine::fire_group-fire-fire_task-requires
Engine::fire_group-fire-fire_task-requires g t c = λ κs lives.
    let less = less_by c.inside.result.lib.now _ c.args.task.now.depth _ (ap (λ r. r.now) c.inside.ensures.lib) c.requires.1 in
    (omega (arith, less, c.decreases), (lives, search rules))

pub Engine::start-returns : goal.Engine::start-returns
Engine::start-returns g t c = λ work before starts.
    let is : c.args.tasks ≡ Ok c.in_ok-tasks.tasks = search rules in
    let ready = are_ready c.args.self.now.lib.now c.args.depth c.args.tasks c.in_ok-tasks.tasks is c.requires.tasks in
    let long : length c.in_ok-tasks.tasks.items ≡ c.in_ok-tasks.tasks.len = search rules in
    let some : c.in_ok-tasks.tasks.items ≡ [] → ⊥ = λ e. let zero : c.in_ok-tasks.tasks.len ≡ 0 = sym long ∙ ap length e in search rules in
    let same = c.in-Err.ensures.others in
    let now : map task c.deref.result.now ≡ filter (λ (u : Task). is_immediate u.place) (map task c.in_ok-tasks.tasks.items) =
    ap (map task) c.deref.ensures.value ∙ c.in_ok-placed.ensures.immediate ∙ ap (λ ts. filter (λ (u : Task). is_immediate u.place) (map task ts)) same in
    let queued = c.in_ok-placed.ensures.queued ∙ ap (λ ts. deferred_of (map task ts)) same in
    let apart = c.in_ok-placed.ensures.detached ∙ ap (λ ts. map unreleased (detached_of (map task ts))) same in
    record {
      answer = followed (placing (map task c.in_ok-tasks.tasks.items)) (group_answer (group c.in_ok-group.group));
      is = (then_starts c.args.self.now.lib.now c.args.depth work before c.args.view.now c.args.tasks c.in_ok-tasks.tasks is starts).then_runs
          (start_runs (map task c.in_ok-tasks.tasks.items) ready (λ e. some (map_none task c.in_ok-tasks.tasks.items e))
          (subst (λ ts. RunsGroup (library c.args.self.now.lib.now) (siblings (fire_task (library c.args.self.now.lib.now)) true ts) c.args.view.now c.fire_group.new.view
          (group c.in_ok-group.group)) now c.in_ok-group.ensures.runs));
      added = c.in_ok-add_placed.ensures ∙ (λ i. followed (course c.args.course.now)
          (followed (record { end = done; queued = queued i; detached = apart i; items = no_items }) (group_answer (group c.in_ok-group.group))));
    }

-- ---- the statements

pub Engine::statement-returns-in-Create : goal.Engine::statement-returns-in-Create
Engine::statement-returns-in-Create g t c =
    let is : R.create c.in-Create.class (expression c.deref.result.now) (map assignment c.deref-in-Create.result.now) ≡ statement c.args.stmt.now = search (rules, the_lemmas) in
    steps_at (library c.args.self.now.lib.now) (level_at (library c.args.self.now.lib.now) c.args.context.now.env.time c.args.context.now.depth)
    (context c.args.context.now) c.args.view.now c.signal_event.new.view (course c.args.course.now) (course c.signal_event.new.course)
    c.signal_event.result is (c.signal_event.ensures _ c.args.view.now c.create_object.ensures)

pub Engine::statement-returns-in-Update : goal.Engine::statement-returns-in-Update
Engine::statement-returns-in-Update g t c =
    let is : R.update c.in-Update.class (expression c.deref-in-Update.result.now) (map assignment c.deref-in-Update-2.result.now) ≡ statement c.args.stmt.now = search (rules, the_lemmas) in
    steps_at (library c.args.self.now.lib.now) (level_at (library c.args.self.now.lib.now) c.args.context.now.env.time c.args.context.now.depth)
    (context c.args.context.now) c.args.view.now c.signal_event-in-Update.new.view (course c.args.course.now)
    (course c.signal_event-in-Update.new.course) c.signal_event-in-Update.result is (c.signal_event-in-Update.ensures _ c.args.view.now c.update_object.ensures)

pub Engine::statement-returns-in-Delete : goal.Engine::statement-returns-in-Delete
Engine::statement-returns-in-Delete g t c =
    let is : R.delete c.in-Delete.class (expression c.deref-in-Delete.result.now) ≡ statement c.args.stmt.now = search (rules, the_lemmas) in
    steps_at (library c.args.self.now.lib.now) (level_at (library c.args.self.now.lib.now) c.args.context.now.env.time c.args.context.now.depth)
    (context c.args.context.now) c.args.view.now c.signal_event-in-Delete.new.view (course c.args.course.now)
    (course c.signal_event-in-Delete.new.course) c.signal_event-in-Delete.result is (c.signal_event-in-Delete.ensures _ c.args.view.now c.delete_object.ensures)

pub Engine::statement-returns-in-Signal : goal.Engine::statement-returns-in-Signal
Engine::statement-returns-in-Signal g t c =
    let is : R.signal c.deref-in-Signal.result.now (map expression c.deref-in-Signal-2.result.now) ≡ statement c.args.stmt.now = search (rules, the_lemmas) in
    let level = level_at (library c.args.self.now.lib.now) c.args.context.now.env.time c.args.context.now.depth in
    let values = values_of (context c.args.context.now).environment (map expression c.deref-in-Signal-2.result.now) in
    steps_at (library c.args.self.now.lib.now) level (context c.args.context.now) c.args.view.now c.signal_event-in-Signal.new.view
    (course c.args.course.now) (course c.signal_event-in-Signal.new.course) c.signal_event-in-Signal.result is
    (c.signal_event-in-Signal.ensures _ c.args.view.now (signal_makes primitive (library c.args.self.now.lib.now) level c.deref-in-Signal.result.now
    values c.args.view.now c.make_signal.result c.make_signal.ensures))

pub Engine::statement-returns-in-Emit : goal.Engine::statement-returns-in-Emit
Engine::statement-returns-in-Emit g t c =
    let is : R.emit (expression c.deref-in-Emit.result.now) ≡ statement c.args.stmt.now = search (rules, the_lemmas) in
    steps_at (library c.args.self.now.lib.now) (level_at (library c.args.self.now.lib.now) c.args.context.now.env.time c.args.context.now.depth)
    (context c.args.context.now) c.args.view.now c.args.view.now (course c.args.course.now) (course c.emit.new.course) c.emit.result is
    (c.emit.ensures c.args.view.now (library c.args.self.now.lib.now)
    (level_at (library c.args.self.now.lib.now) c.args.context.now.env.time c.args.context.now.depth))

pub Engine::statement-returns-in-If : goal.Engine::statement-returns-in-If
Engine::statement-returns-in-If g t c =
    let is : R.when (expression c.deref-in-If.result.now) (body_in c.deref-in-If-2.result.now) (body_in c.deref-in-If-3.result.now) ≡ statement c.args.stmt.now =
    search (rules, the_lemmas, row_body_lem) in
    steps_at (library c.args.self.now.lib.now) (level_at (library c.args.self.now.lib.now) c.args.context.now.env.time c.args.context.now.depth)
    (context c.args.context.now) c.args.view.now c.run_branch.new.view (course c.args.course.now) (course c.run_branch.new.course) c.run_branch.result is c.run_branch.ensures

pub Engine::statement-returns-in-Each : goal.Engine::statement-returns-in-Each
Engine::statement-returns-in-Each g t c =
    let is : R.each c.deref-in-Each.result.now c.in-Each.class (expression c.deref-in-Each-2.result.now) (body_in c.deref-in-Each-3.result.now) ≡ statement c.args.stmt.now =
    search (rules, the_lemmas, row_body_lem) in
    steps_at (library c.args.self.now.lib.now) (level_at (library c.args.self.now.lib.now) c.args.context.now.env.time c.args.context.now.depth)
    (context c.args.context.now) c.args.view.now c.each_found.new.view (course c.args.course.now) (course c.each_found.new.course) c.each_found.result is c.each_found.ensures

pub Engine::statement-returns-in-For : goal.Engine::statement-returns-in-For
Engine::statement-returns-in-For g t c =
    let name = c.deref-query.result.now in
    let body = body_in c.deref-in-For.result.now in
    let lib = library c.args.self.now.lib.now in
    let level = level_at (library c.args.self.now.lib.now) c.args.context.now.env.time c.args.context.now.depth in
    let is : R.for_answer c.deref-query.result.now (body_in c.deref-in-For.result.now) ≡ statement c.args.stmt.now = search (rules, the_lemmas, row_body_lem) in
    steps_at lib level (context c.args.context.now) c.args.view.now c.each_row.new.view (course c.args.course.now) (course c.each_row.new.course) c.each_row.result is
    (subst (λ rs. Steps lib (for_each rs (λ r. run_body body level (with_row name r (context c.args.context.now)))) c.args.view.now c.each_row.new.view
    (course c.args.course.now) (course c.each_row.new.course) c.each_row.result)
    c.kept-rows.ensures c.each_row.ensures)

pub Engine::statement-returns-in-With : goal.Engine::statement-returns-in-With
Engine::statement-returns-in-With g t c =
    let is : R.with_object c.deref-in-With.result.now c.in-With.class (expression c.deref-in-With-2.result.now) (body_in c.deref-in-With-3.result.now) ≡ statement c.args.stmt.now =
    (λ i. R.with_object (c.deref-in-With.ensures i) c.in-With.class (expression (c.deref-in-With-2.ensures i)) (body_in (c.deref-in-With-3.ensures.value i)))
    ∙ with_is c.args.stmt.now c.in-With.variable c.in-With.class c.in-With.key c.in-With.body c.in-With.is in
    steps_at (library c.args.self.now.lib.now) (level_at (library c.args.self.now.lib.now) c.args.context.now.env.time c.args.context.now.depth)
    (context c.args.context.now) c.args.view.now c.with_object.new.view (course c.args.course.now) (course c.with_object.new.course) c.with_object.result is c.with_object.ensures

pub Engine::statement-returns-in-Sub : goal.Engine::statement-returns-in-Sub
Engine::statement-returns-in-Sub g t c =
    let is : R.subtransaction (body_in c.deref-in-Sub.result.now) (body_in c.deref-in-Sub-2.result.now) ≡ statement c.args.stmt.now = search (rules, the_lemmas, row_body_lem) in
    steps_at (library c.args.self.now.lib.now) (level_at (library c.args.self.now.lib.now) c.args.context.now.env.time c.args.context.now.depth)
    (context c.args.context.now) c.args.view.now c.sub_or_otherwise.new.view (course c.args.course.now) (course c.sub_or_otherwise.new.course) c.sub_or_otherwise.result is c.sub_or_otherwise.ensures

pub Engine::statement-returns-in-Abort : goal.Engine::statement-returns-in-Abort
Engine::statement-returns-in-Abort g t c =
    let is : R.abort ≡ statement c.args.stmt.now = search (rules, the_lemmas) in
    let level = level_at (library c.args.self.now.lib.now) c.args.context.now.env.time c.args.context.now.depth in
    steps_at (library c.args.self.now.lib.now) level (context c.args.context.now) c.args.view.now c.args.view.now (course c.args.course.now) (course c.end_with.new.self) (Ok tt) is
    (record { answer = ended (abort_by requested); is = runs_ends (abort_by requested) c.args.view.now; added = c.end_with.ensures })

pub Engine::statement-returns-in-Let : goal.Engine::statement-returns-in-Let
Engine::statement-returns-in-Let g t c =
    let is : R.let_value c.deref-in-Let.result.now (aggregate c.in-Let.aggregate) (body_in c.deref-in-Let-2.result.now) ≡ statement c.args.stmt.now = search (rules, the_lemmas, row_body_lem) in
    steps_at (library c.args.self.now.lib.now) (level_at (library c.args.self.now.lib.now) c.args.context.now.env.time c.args.context.now.depth)
    (context c.args.context.now) c.args.view.now c.with_let.new.view (course c.args.course.now) (course c.with_let.new.course) c.with_let.result is c.with_let.ensures

pub Engine::statement-returns-in-Veto : goal.Engine::statement-returns-in-Veto
Engine::statement-returns-in-Veto g t c =
    let level = level_at (library c.args.self.now.lib.now) c.args.context.now.env.time c.args.context.now.depth in
    let is = veto_is c.args.stmt.now c.in-Veto.message c.in-Veto.is in
    steps_at (library c.args.self.now.lib.now) level (context c.args.context.now) c.args.view.now c.args.view.now (course c.args.course.now) (course c.run_veto.new.course) c.run_veto.result is
    (c.run_veto.ensures (library c.args.self.now.lib.now) level c.args.view.now)

pub Engine::statement-returns-in-OnRule : goal.Engine::statement-returns-in-OnRule
Engine::statement-returns-in-OnRule g t c =
    let is : R.on_rule (rule_operation c.in-OnRule.operation) c.in-OnRule.rule ≡ statement c.args.stmt.now = search (rules, the_lemmas) in
    steps_at (library c.args.self.now.lib.now) (level_at (library c.args.self.now.lib.now) c.args.context.now.env.time c.args.context.now.depth)
    (context c.args.context.now) c.args.view.now c.change_rule.new.view (course c.args.course.now) (course c.change_rule.new.course) c.change_rule.result is
    (c.change_rule.ensures (level_at (library c.args.self.now.lib.now) c.args.context.now.env.time c.args.context.now.depth) (context c.args.context.now))

pub Engine::statement-returns-in-Fire : goal.Engine::statement-returns-in-Fire
Engine::statement-returns-in-Fire g t c =
    let is : R.fire c.in-Fire.rule ≡ statement c.args.stmt.now = search (rules, the_lemmas) in
    let level = level_at (library c.args.self.now.lib.now) c.args.context.now.env.time c.args.context.now.depth in
    steps_at (library c.args.self.now.lib.now) level (context c.args.context.now) c.args.view.now c.start.new.view (course c.args.course.now) (course c.start.new.course) c.start.result is
    (c.start.ensures (run_statement (R.fire c.in-Fire.rule) level (context c.args.context.now)) c.args.view.now (c.make_task-tasks.ensures.starts (context c.args.context.now)))

-- ---- the functions of the statements

pub Engine::run_branch-returns-in_err-is_true : goal.Engine::run_branch-returns-in_err-is_true
Engine::run_branch-returns-in_err-is_true g t c =
    let p = err_from_is_err_and c.from_residual.result c.from_residual.ensures.1 in
    rw (p.1, p.2)
    (steps_halt (course c.args.course.now) (λ b. b)
    (λ S b. choose b (run_body (body_in c.args.then_body.now) (level_at (library c.args.self.now.lib.now) c.args.context.now.env.time c.args.context.now.depth)
    (context c.args.context.now)) (run_body (body_in c.args.else_body.now) (level_at (library c.args.self.now.lib.now) c.args.context.now.env.time c.args.context.now.depth)
    (context c.args.context.now)))
    (boolean_value (context c.args.context.now).environment (expression c.args.condition.now)) c.in_err-is_true.field-0.0 (library c.args.self.now.lib.now) c.args.view.now c.in_err-is_true.ensures)

pub Engine::run_branch-returns-in_ok-statements : goal.Engine::run_branch-returns-in_ok-statements
Engine::run_branch-returns-in_ok-statements g t c =
    appends_as (λ a runs. runs_value (λ b. choose b (run_body (body_in c.args.then_body.now) (level_at (library c.args.self.now.lib.now) c.args.context.now.env.time c.args.context.now.depth)
    (context c.args.context.now)) (run_body (body_in c.args.else_body.now) (level_at (library c.args.self.now.lib.now) c.args.context.now.env.time c.args.context.now.depth)
    (context c.args.context.now)))
    (boolean_value (context c.args.context.now).environment (expression c.args.condition.now)) true (ap Ok (sym c.if-branch.true) ∙ c.in_ok-is_true.ensures) runs) c.in_ok-statements.ensures

pub Engine::run_branch-returns-in_ok-statements-2 : goal.Engine::run_branch-returns-in_ok-statements-2
Engine::run_branch-returns-in_ok-statements-2 g t c =
    appends_as (λ a runs. runs_value (λ b. choose b (run_body (body_in c.args.then_body.now) (level_at (library c.args.self.now.lib.now) c.args.context.now.env.time c.args.context.now.depth)
    (context c.args.context.now)) (run_body (body_in c.args.else_body.now) (level_at (library c.args.self.now.lib.now) c.args.context.now.env.time c.args.context.now.depth)
    (context c.args.context.now)))
    (boolean_value (context c.args.context.now).environment (expression c.args.condition.now)) false (ap Ok (sym c.if-branch.false) ∙ c.in_ok-is_true.ensures) runs) c.in_ok-statements-2.ensures

pub Engine::each_found-returns-in_err-rows : goal.Engine::each_found-returns-in_err-rows
Engine::each_found-returns-in_err-rows g t c =
    let p = err_from_is_err_and c.from_residual.result c.from_residual.ensures.1 in
    rw (p.1, p.2)
    (found_halt (course c.args.course.now) keyed_rows
    (λ rows. for_each rows (λ r. run_body (body_in c.args.body.now) (level_at (library c.args.self.now.lib.now) c.args.context.now.env.time c.args.context.now.depth)
    (with_row c.args.selection.variable.now r (context c.args.context.now))))
    (λ S. answer (context c.args.context.now).environment c.args.selection.variable.now c.args.selection.class (expression c.args.selection.predicate.now) S.objects) c.in_err-rows.field-0.0
    (library c.args.self.now.lib.now) c.args.view.now c.select_rows.new.view c.in_err-rows.ensures)

pub Engine::each_found-returns : goal.Engine::each_found-returns
Engine::each_found-returns g t c =
    let work = λ (r : KeyedRow). run_body (body_in c.args.body.now) (level_at (library c.args.self.now.lib.now) c.args.context.now.env.time c.args.context.now.depth)
    (with_row c.args.selection.variable.now r (context c.args.context.now)) in
    found_steps (library c.args.self.now.lib.now) (λ S. answer (context c.args.context.now).environment c.args.selection.variable.now c.args.selection.class
    (expression c.args.selection.predicate.now) S.objects)
    (λ rs. for_each rs work) (map keyed_row c.in_ok-rows.rows.items) c.args.view.now c.select_rows.new.view c.each_row.new.view
    (course c.args.course.now) (course c.each_row.new.course) c.each_row.result c.in_ok-rows.ensures
    (subst (λ rs. Steps (library c.args.self.now.lib.now) (for_each (map keyed_row rs) work) c.select_rows.new.view c.each_row.new.view
    (course c.args.course.now) (course c.each_row.new.course) c.each_row.result) c.deref.ensures.value c.each_row.ensures)

pub Engine::with_object-returns-in_err-row : goal.Engine::with_object-returns-in_err-row
Engine::with_object-returns-in_err-row g t c =
    let p = err_from_is_err_and c.from_residual.result c.from_residual.ensures.1 in
    rw (p.1, p.2)
    (found_halt (course c.args.course.now) keyed_row (λ r. run_body (body_in c.args.body.now) (level_at (library c.args.self.now.lib.now) c.args.context.now.env.time c.args.context.now.depth)
    (with_row c.args.binding.variable.now r (context c.args.context.now)))
    (λ S. named_object S.objects (context c.args.context.now).environment c.args.binding.class (expression c.args.binding.key.now)) c.in_err-row.field-0.0
    (library c.args.self.now.lib.now) c.args.view.now c.named_object.new.view c.in_err-row.ensures.found)

pub Engine::with_object-returns : goal.Engine::with_object-returns
Engine::with_object-returns g t c =
    let x = c.args.binding.variable.now in
    let fits : SFits w64 c.in_ok-row.row.key = search rules in
    let back : to_z w64 (of_z w64 c.in_ok-row.row.key) ≡ c.in_ok-row.row.key = to_z-of_z w64 c.in_ok-row.row.key fits in
    found_adds (λ r. run_body (body_in c.args.body.now) (level_at (library c.args.self.now.lib.now) c.args.context.now.env.time c.args.context.now.depth)
    (with_row x r (context c.args.context.now))) c.in_ok-row.ensures.found
    (appends_as (λ a runs. body_under (body_in c.args.body.now) (c.bound-inner.ensures.context ∙ ap (λ k. with_row x (record { key = k; row = c.in_ok-row.row.row }) (context c.args.context.now)) back)
    c.bound-inner.ensures.depth runs) c.in_ok-statements.ensures)

pub Engine::with_let-returns-in_err-value : goal.Engine::with_let-returns-in_err-value
Engine::with_let-returns-in_err-value g t c =
    let p = err_from_is_err_and c.from_residual.result c.from_residual.ensures.1 in
    rw (p.1, p.2)
    (found_halt (course c.args.course.now) value (λ v. run_body (body_in c.args.body.now) (level_at (library c.args.self.now.lib.now) c.args.context.now.env.time c.args.context.now.depth)
    (with_let c.args.name.now v (context c.args.context.now)))
    (λ S. let_of S.objects (context c.args.context.now).environment (aggregate c.args.aggregate.now)) c.in_err-value.field-0.0
    (library c.args.self.now.lib.now) c.args.view.now c.let_value.new.view c.in_err-value.ensures)

pub Engine::with_let-returns : goal.Engine::with_let-returns
Engine::with_let-returns g t c =
    found_adds (λ v. run_body (body_in c.args.body.now) (level_at (library c.args.self.now.lib.now) c.args.context.now.env.time c.args.context.now.depth)
    (with_let c.args.name.now v (context c.args.context.now))) c.in_ok-value.ensures
    (appends_as (λ a runs. body_under (body_in c.args.body.now) c.holding-inner.ensures.context c.holding-inner.ensures.depth runs) c.in_ok-statements.ensures)

pub Engine::sub_or_otherwise-returns-then-not-aborted : goal.Engine::sub_or_otherwise-returns-then-not-aborted
Engine::sub_or_otherwise-returns-then-not-aborted g t c =
    let lib = library c.args.self.now.lib.now in
    let work = run_body (body_in c.args.body.now) (level_at lib c.args.context.now.env.time c.args.context.now.depth) (context c.args.context.now) in
    let ran : Appends (λ a. SubRuns lib work c.args.view.now c.close_sub.new.view a c.in_ok-aborted.aborted) (course c.args.course.now) (course c.close_sub.new.course) =
    c.in_ok-aborted.ensures lib work c.args.view.now (course c.args.course.now) c.in_ok-statements.ensures.answer
    (part_begins c.begin_part-around.ensures.around c.begin_part-around.ensures.opened c.in_ok-statements.ensures) c.in_ok-statements.ensures.is (sym c.enter-mark.ensures) in
    appends_as (λ a over. sub_over (run_body (body_in c.args.otherwise.now) (level_at lib c.args.context.now.env.time c.args.context.now.depth) (context c.args.context.now)) over)
    (subst (λ b. Appends (λ a. SubRuns lib work c.args.view.now c.close_sub.new.view a b) (course c.args.course.now) (course c.close_sub.new.course)) c.if-not-aborted.true ran)

pub Engine::sub_or_otherwise-returns : goal.Engine::sub_or_otherwise-returns
Engine::sub_or_otherwise-returns g t c =
    let lib = library c.args.self.now.lib.now in
    let work = run_body (body_in c.args.body.now) (level_at lib c.args.context.now.env.time c.args.context.now.depth) (context c.args.context.now) in
    let ran : Appends (λ a. SubRuns lib work c.args.view.now c.close_sub.new.view a c.in_ok-aborted.aborted) (course c.args.course.now) (course c.close_sub.new.course) =
    c.in_ok-aborted.ensures lib work c.args.view.now (course c.args.course.now) c.in_ok-statements.ensures.answer
    (part_begins c.begin_part-around.ensures.around c.begin_part-around.ensures.opened c.in_ok-statements.ensures) c.in_ok-statements.ensures.is (sym c.enter-mark.ensures) in
    appends_then (λ a b aborted other. sub_then aborted other)
    (subst (λ b. Appends (λ a. SubRuns lib work c.args.view.now c.close_sub.new.view a b) (course c.args.course.now) (course c.close_sub.new.course)) c.if-not-aborted.false ran)
    c.in_ok-statements-2.ensures
