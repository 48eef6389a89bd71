use Rattle.std.proofs.Common.{rules, ◌≡◌, w64, ◌∙◌, sym, ap, Some}
use Rattle.std.proofs.lemmas.Int.{to_z-of_z}
use Rattle.hp_model.specs.State.{find_object}
use Rattle.hp_query.proofs.plain.PlainObjectsLook.row.Goals as goal

pub returns-in_ok-clone-in-Some-clause-found : goal.returns-in_ok-clone-in-Some-clause-found
returns-in_ok-clone-in-Some-clause-found c = λ world rise is.
    let copy : c.in_ok-clone-in-Some.field-0 ≡ c.in-Some.row.now = search rules in
    ap Some copy ∙ c.in-Some.ensures ∙ ap (find_object c.args.self.now c.args.class) (to_z-of_z w64 c.args.key c.ranges.key)
    ∙ ap (λ objects. find_object objects c.args.class c.args.key) (sym is)

pub returns-in-None-clause-found : goal.returns-in-None-clause-found
returns-in-None-clause-found c = λ world rise is.
    c.in-None.ensures ∙ ap (find_object c.args.self.now c.args.class) (to_z-of_z w64 c.args.key c.ranges.key)
    ∙ ap (λ objects. find_object objects c.args.class c.args.key) (sym is)
