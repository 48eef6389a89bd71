use Rattle.std.proofs.Common.{w64, ◌∙◌, sym, ap, subst, IsTrue, rules}
use Rattle.hp_model.specs.Values.{fits_64}
use Rattle.std.proofs.lemmas.Int.{to_z-of_z}
use Rattle.hp_model.specs.State.{write_object}
use Rattle.hp_query.specs.Plain.{objects_in, KeysFit}
use Rattle.hp_query.proofs.PlainLemmas.{written_in, KeysFit-insert}
use Rattle.hp_query.proofs.plain.PlainObjects.insert.Goals as goal

pub invariant_of-self-2 : goal.invariant_of-self-2
invariant_of-self-2 c =
    let fits : IsTrue (fits_64 c.args.key) = search rules in
    let passed = subst (λ k. IsTrue (fits_64 k)) (sym (to_z-of_z w64 c.args.key c.ranges.key)) fits in
    subst KeysFit (sym c.in_ok-insert.ensures.entries) (KeysFit-insert c.self.inside.rows.entries _ c.args.row c.self.invariant passed)

pub returns-clause-ok : goal.returns-clause-ok
returns-clause-ok c =
    ap objects_in c.in_ok-insert.ensures.entries ∙ written_in c.self.inside.rows.entries c.args.class c.args.key _ c.args.row (to_z-of_z w64 c.args.key c.ranges.key)
    ∙ ap (λ objects. write_object objects c.args.class c.args.key c.args.row) c.self.view_is
