use Rattle.std.proofs.Common.{rules, ◌≤◌, ◌∙◌, sym, length}
use Rattle.std.specs.declared.sync.Arc.{Arc}
use Rattle.std.specs.declared.alloc.Global.{Global}
use Rattle.hp_value.specs.declared.occurrence.Occurrence.{Occurrence}
use Rattle.hp_value.specs.Mapped.{occurrence}
use Rattle.hp_value.specs.Same.{occurrence_same}
use Rattle.hp_detect.proofs.Runs.{alike_next, differ_next}
use Rattle.hp_detect.proofs.queue.alike_from.Goals as goal

pub returns-then-eq-clause-alike : goal.returns-then-eq-clause-alike
returns-then-eq-clause-alike c =
    let low : c.min-both.result ≤ length c.run-here.result.now = search rules in
    let low' : c.min-both.result ≤ length c.run-there.result.now = search rules in
    alike_next occurrence_same (λ (o : Arc Occurrence Global). occurrence o.value) c.run-here.result.now c.run-there.result.now c.args.one.now c.args.other.now c.args.at c.min-both.result
    c.run-here.ensures c.run-there.ensures low low' (sym c.eq.ensures ∙ c.if-eq.true)

pub returns-else-eq-clause-differ : goal.returns-else-eq-clause-differ
returns-else-eq-clause-differ c = λ _.
    let low : c.min-both.result ≤ length c.run-here.result.now = search rules in
    let low' : c.min-both.result ≤ length c.run-there.result.now = search rules in
    differ_next occurrence_same (λ (o : Arc Occurrence Global). occurrence o.value) c.run-here.result.now c.run-there.result.now c.args.one.now c.args.other.now c.args.at c.min-both.result
    c.run-here.ensures c.run-there.ensures low low' (sym c.eq.ensures ∙ c.if-eq.false)
