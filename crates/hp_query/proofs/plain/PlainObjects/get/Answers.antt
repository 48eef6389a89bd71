use Rattle.std.proofs.Common.{w64, ◌∙◌, ap}
use Rattle.std.proofs.lemmas.Int.{to_z-of_z}
use Rattle.hp_model.specs.State.{find_object}
use Rattle.hp_query.proofs.PlainLemmas.{found_in}
use Rattle.hp_query.proofs.plain.PlainObjects.get.Goals as goal

pub returns : goal.returns
returns c = c.get.ensures.value ∙ found_in c.self.inside.rows.entries c.args.class c.args.key _ (to_z-of_z w64 c.args.key c.ranges.key)
    ∙ ap (λ objects. find_object objects c.args.class c.args.key) c.self.view_is
