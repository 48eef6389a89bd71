use Rattle.std.proofs.Common.{w64, ◌∙◌, sym, ap, subst}
use Rattle.std.proofs.lemmas.Int.{to_z-of_z}
use Rattle.hp_model.specs.State.{find_object, remove_object}
use Rattle.hp_query.specs.Plain.{objects_in, KeysFit}
use Rattle.hp_query.proofs.PlainLemmas.{found_in, removed_in, KeysFit-remove}
use Rattle.hp_query.proofs.plain.PlainObjects.remove.Goals as goal

pub invariant_of-self : goal.invariant_of-self
invariant_of-self c = subst KeysFit (sym c.remove.ensures.entries) (KeysFit-remove c.self.inside.rows.entries _ c.self.invariant)

pub returns-clause-row : goal.returns-clause-row
returns-clause-row c = c.remove.ensures.value ∙ found_in c.self.inside.rows.entries c.args.class c.args.key _ (to_z-of_z w64 c.args.key c.ranges.key)
    ∙ ap (λ objects. find_object objects c.args.class c.args.key) c.self.view_is

pub returns-clause-others : goal.returns-clause-others
returns-clause-others c =
    ap objects_in c.remove.ensures.entries ∙ removed_in c.self.inside.rows.entries c.args.class c.args.key _ (to_z-of_z w64 c.args.key c.ranges.key)
    ∙ ap (λ objects. remove_object objects c.args.class c.args.key) c.self.view_is
