use Rattle.std.proofs.Common.{ap, sym, ◌∙◌}
use Rattle.hp_value.specs.Mapped.{cell}
use Rattle.hp_store.specs.Changes.{changes}
use Rattle.hp_store.specs.Mapped.{change}
use Rattle.hp_store.proofs.Layered.{newest_found, newest_next}
use Rattle.hp_store.proofs.shared.newest.Goals as goal

pub returns-in-Some-get : goal.returns-in-Some-get
returns-in-Some-get c =
    newest_found c.args.layers.now c.loop-last.rest.now c.in-Some.others.now c.in-Some.last.now (cell c.args.cell) (change c.in-Some-get.change.now) c.loop-last.invariant
    c.in-Some.ensures.cases.0 (c.in-Some-get.ensures ∙ ap (λ l. changes l (cell c.args.cell)) c.in-Some-layer.ensures)

pub loop-last-preserved-in_default-get : goal.loop-last-preserved-in_default-get
loop-last-preserved-in_default-get c =
    newest_next c.args.layers.now c.loop-last.rest.now c.in-Some.others.now c.in-Some.last.now (cell c.args.cell) c.loop-last.invariant
    c.in-Some.ensures.cases.0 (c.in_default-get.ensures ∙ ap (λ l. changes l (cell c.args.cell)) c.in-Some-layer.ensures)

pub loop-last-preserved : goal.loop-last-preserved
loop-last-preserved c =
    newest_next c.args.layers.now c.loop-last.rest.now c.in-Some.others.now c.in-Some.last.now (cell c.args.cell) c.loop-last.invariant
    c.in-Some.ensures.cases.0 (ap (λ l. changes l (cell c.args.cell)) (sym c.in_default-layer.ensures))
