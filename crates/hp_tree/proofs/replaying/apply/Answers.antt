use Rattle.std.proofs.Common.{rules, sym, ap, ◌∙◌, w64, SFits}
use Rattle.std.proofs.lemmas.Int.{to_z-of_z}
use Rattle.hp_model.specs.State.{remove_object}
use Rattle.hp_model.specs.Tree.{apply}
use Rattle.hp_tree.specs.Mapped.{operation}
use Rattle.hp_tree.proofs.replaying.apply.Goals as goal

pub returns-in-Delete : goal.returns-in-Delete
returns-in-Delete c =
    let fits : SFits w64 c.in-Delete.key = search rules in
    c.remove.ensures ∙ ap (remove_object c.args.objects.now c.in-Delete.class) (to_z-of_z w64 c.in-Delete.key fits)
    ∙ ap (λ op. apply (operation op) c.args.objects.now) (sym c.in-Delete.is)
