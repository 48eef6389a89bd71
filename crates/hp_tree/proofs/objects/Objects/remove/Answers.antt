use Rattle.std.proofs.Common.{◌≡◌, ap, ◌∙◌, to_z, of_z, w64}
use Rattle.std.proofs.lemmas.Int.{to_z-of_z}
use Rattle.hp_model.specs.State.{remove_object}
use Rattle.hp_tree.specs.Names.{objects_of}
use Rattle.hp_tree.proofs.ByName.{remove_is}
use Rattle.hp_tree.proofs.objects.Objects.remove.Goals as goal

pub returns : goal.returns
returns c =
    let back : to_z w64 (of_z w64 c.args.key) ≡ c.args.key = to_z-of_z w64 c.args.key c.ranges.key in
    ap objects_of c.remove.ensures.entries ∙ remove_is c.self.inside.rows.entries _
    ∙ ap (remove_object (objects_of c.self.inside.rows.entries) c.args.class) back
    ∙ ap (λ objects. remove_object objects c.args.class c.args.key) c.self.view_is
