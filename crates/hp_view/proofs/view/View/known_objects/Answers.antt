use Rattle.std.proofs.Common.{subst}
use Rattle.hp_model.specs.Cells.{AreObjects}
use Rattle.hp_view.specs.Seeing.{beneath}
use Rattle.hp_view.specs.contracts.view.View.{the_view}
use Rattle.hp_view.proofs.view.View.known_objects.Goals as goal

pub returns-in-Some : goal.returns-in-Some
returns-in-Some c = subst (λ u. AreObjects (beneath u) c.args.class c.in-Some.recorded.now.value) c.self.view_is (c.in-Some.ensures.held (beneath (the_view c.self.inside)) c.self.invariant.held)
