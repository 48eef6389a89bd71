use Rattle.std.proofs.Common.{ap, subst, ◌∙◌}
use Rattle.std.specs.Prelude.{option_map}
use Rattle.hp_store.specs.Indexed.{IsIn}
use Rattle.hp_store.specs.Mapped.{cell_value}
use Rattle.hp_store.proofs.Based.{found_value}
use Rattle.hp_store.proofs.Noted.{notes_none, notes_more, notes_each}
use Rattle.hp_store.proofs.layer.index_of.Goals as goal

pub loop-cell-init : goal.loop-cell-init
loop-cell-init c = notes_none c.in_ok-index.index c.args.named.now.entries c.into_iter-cell-iterator.result c.into_iter-cell-iterator.ensures.into_iter_gives.0

pub loop-cell-preserved : goal.loop-cell-preserved
loop-cell-preserved c =
    notes_more c.loop-cell.index c.enter_at.new.self c.args.named.now.entries c.loop-cell.cell-iterator c.next.new.self (c.in-Some.cell.now, c.in-Some.change.now)
    c.in-Some.ensures.steps c.enter_at.ensures.same
    c.enter_at.ensures.kept
    (λ key is. subst (λ v. IsIn c.enter_at.new.self key v) (found_value c.as_ref.result ∙ ap (option_map cell_value) c.as_ref.ensures.value)
    (c.enter_at.ensures.entered c.if-not-enter_at.false key is))
    c.loop-cell.invariant

pub returns : goal.returns
returns c = notes_each c.loop-cell.index c.args.named.now.entries c.loop-cell.cell-iterator c.in-None.ensures.steps.0 c.loop-cell.invariant
