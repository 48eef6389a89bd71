use Rattle.std.proofs.Common.{ap, ◌∙◌}
use Rattle.hp_model.specs.Cells.{over}
use Rattle.hp_store.specs.Changes.{changes}
use Rattle.hp_store.specs.Stack.{cells_in}
use Rattle.hp_view.specs.Seeing.{now_in}
use Rattle.hp_view.proofs.view.View.freeze.Goals as goal

pub returns : goal.returns
returns c =
    c.in_ok-snapshot.ensures
    ∙ ap (λ es. over (cells_in c.self.inside.base) (changes es)) c.in_ok-layer.ensures
    ∙ ap now_in c.self.view_is
