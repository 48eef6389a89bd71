use Rattle.std.proofs.Common.{rules, sym, ap, subst, ◌∙◌, ◌-◌, map, arith}
use Rattle.hp_model.specs.Cascade.{most_rounds}
use Rattle.hp_rule.specs.Mapped.{library, task}
use Rattle.hp_top.specs.Mapped.{generation_of}
use Rattle.hp_top.specs.Runs.{RunsGeneration}
use Rattle.hp_top.proofs.Cascading.{cascade_started, cascade_ran, cascade_empty, cascade_all}
use Rattle.std.specs.Prelude.{vec_len}
use Rattle.hp_top.proofs.Gathered.{is_nothing, is_something}
use Rattle.hp_top.proofs.runner.Runner.cascade.Goals as goal

pub loop-init : goal.loop-init
loop-init g c =
    let L = library c.args.self.now.engine.lib.now in
    cascade_started L (map task c.args.tasks.items) (most_rounds L - 0) c.args.view.now c.new-reports.result.items (omega arith) c.new-reports.ensures.items

pub returns-then-is_empty : goal.returns-then-is_empty
returns-then-is_empty g c =
    let none = is_nothing c.loop.next.items (vec_len c.loop.next) c.loop.next.ok.0 (sym c.is_empty.ensures ∙ c.if-is_empty.true) in
    cascade_empty (ap (map task) none) c.loop.invariant

pub loop-preserved : goal.loop-preserved
loop-preserved g c =
    let some = is_something c.loop.next.items (vec_len c.loop.next) c.loop.next.ok.0 (sym c.is_empty.ensures ∙ c.if-is_empty.false) in
    let ran = subst (λ ts. RunsGeneration (library c.args.self.now.engine.lib.now) (map task ts) c.loop.view c.run_generation.new.view (generation_of c.in_ok-generation.generation))
    c.deref.ensures.value c.in_ok-generation.ensures in
    cascade_ran c.loop.next.items c.in_ok-next.next.items c.loop.reports.items c.append.new.self.items c.in_ok-generation.generation some (omega (arith, c.most_rounds-most.ensures))
    (search rules) c.in_ok-next.ensures c.loop.invariant ran

pub returns : goal.returns
returns g c = cascade_all (omega (arith, c.most_rounds-most.ensures)) c.loop.invariant
