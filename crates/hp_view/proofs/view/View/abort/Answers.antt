use Rattle.std.proofs.Common.{refl, sym, ◌∙◌}
use Rattle.hp_view.specs.Seeing.{GoesBack}
use Rattle.hp_view.specs.contracts.view.View.{the_view}
use Rattle.hp_view.proofs.Undoing.{restored}
use Rattle.hp_view.proofs.view.View.abort.Goals as goal

pub returns-clause-restores : goal.returns-clause-restores
returns-clause-restores c = λ entered on at.
    let back : GoesBack (the_view c.self.inside) (the_view (record { base = c.self.inside.base; reads = c.self.inside.reads; writes = c.take_back.new.writes; undo = c.take_back.new.undo }))
    c.mark.inside.at =
    record { base = refl; reads = refl; changes = c.in_ok-take_back.ensures.changes; undo = c.in_ok-take_back.ensures.undo } in
    restored c.self.view_is back entered on (at ∙ sym c.mark.view_is)
