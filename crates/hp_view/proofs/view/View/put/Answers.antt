use Rattle.std.proofs.Common.{refl, subst, sym, Some}
use Rattle.hp_value.specs.Mapped.{cell}
use Rattle.hp_store.specs.Mapped.{cell_value}
use Rattle.hp_store.specs.Changes.{changes}
use Rattle.hp_view.specs.Seeing.{AreCovered}
use Rattle.hp_view.specs.contracts.view.View.{the_view}
use Rattle.hp_view.proofs.Undoing.{AreCovered-write, GoesOn-write, GoesOn-from}
use Rattle.hp_view.proofs.view.View.put.Goals as goal

pub invariant_of-self-2 : goal.invariant_of-self-2
invariant_of-self-2 c = record {
  held = c.self.invariant.held;
  covered = subst (λ us. AreCovered us (changes c.write.new.writes.value)) (sym c.in_ok-write.ensures.undo)
      (AreCovered-write _ _ _ (cell c.args.cell) (Some (cell_value c.args.value)) c.in_ok-write.ensures.changes c.self.invariant.covered);
}

pub returns-clause-goes_on : goal.returns-clause-goes_on
returns-clause-goes_on c =
    GoesOn-from c.self.view_is
    (GoesOn-write (the_view c.self.inside) _ (cell c.args.cell) (Some (cell_value c.args.value))
    (record { base = refl; reads = refl; changes = c.in_ok-write.ensures.changes; undo = c.in_ok-write.ensures.undo }))
