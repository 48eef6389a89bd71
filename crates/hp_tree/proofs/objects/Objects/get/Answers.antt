use Rattle.std.proofs.Common.{◌≡◌, ap, ◌∙◌, to_z, of_z, w64}
use Rattle.std.proofs.lemmas.Int.{to_z-of_z}
use Rattle.hp_model.specs.State.{find_object}
use Rattle.hp_tree.proofs.ByName.{find_is}
use Rattle.hp_tree.proofs.objects.Objects.get.Goals as goal

pub returns : goal.returns
returns c =
    let back : to_z w64 (of_z w64 c.args.key) ≡ c.args.key = to_z-of_z w64 c.args.key c.ranges.key in
    c.get.ensures.value ∙ find_is c.self.inside.rows.entries _
    ∙ ap (find_object _ c.args.class) back ∙ ap (λ objects. find_object objects c.args.class c.args.key) c.self.view_is
