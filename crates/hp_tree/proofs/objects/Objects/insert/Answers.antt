use Rattle.std.proofs.Common.{◌≡◌, ap, ◌∙◌, to_z, of_z, w64}
use Rattle.std.proofs.lemmas.Int.{to_z-of_z}
use Rattle.hp_model.specs.State.{write_object}
use Rattle.hp_tree.specs.Names.{objects_of}
use Rattle.hp_tree.proofs.ByName.{insert_is}
use Rattle.hp_tree.proofs.objects.Objects.insert.Goals as goal

pub returns-clause-ok : goal.returns-clause-ok
returns-clause-ok c =
    let back : to_z w64 (of_z w64 c.args.key) ≡ c.args.key = to_z-of_z w64 c.args.key c.ranges.key in
    ap objects_of c.in_ok-insert.ensures.entries ∙ insert_is c.self.inside.rows.entries _ c.args.row
    ∙ ap (λ key. write_object (objects_of c.self.inside.rows.entries) c.args.class key c.args.row) back
    ∙ ap (λ objects. write_object objects c.args.class c.args.key c.args.row) c.self.view_is
