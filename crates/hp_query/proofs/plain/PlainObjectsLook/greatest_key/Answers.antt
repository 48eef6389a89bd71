use Rattle.std.proofs.Common.{rules, sym, ap, ◌∙◌, Some, None, SFits, w64}
use Rattle.std.proofs.lemmas.Int.{to_z-of_z}
use Rattle.std.specs.List.{last_or}
use Rattle.hp_model.specs.State.{class_keys}
use Rattle.hp_query.proofs.PlainLemmas.{last_key}
use Rattle.hp_query.proofs.plain.PlainObjectsLook.greatest_key.Goals as goal

pub returns-clause-found : goal.returns-clause-found
returns-clause-found c = λ world rise is.
    let fits : SFits w64 c.in-Some.name.now.key = search rules in
    ap Some (to_z-of_z w64 c.in-Some.name.now.key fits)
    ∙ last_key c.class_entries.result c.next_back.new.self (c.in-Some.name.now, c.in-Some.field-0-1.now) (class_keys c.args.class c.args.self.now)
    c.in-Some.ensures.steps (c.class_entries.ensures ∙ ap (class_keys c.args.class) c.self.view_is)
    ∙ ap (λ objects. last_or None (class_keys c.args.class objects)) (sym is)
