use Rattle.std.proofs.Common.{◌≡◌, subst, sym, ap, ◌∙◌, Ok, rules, w64, FitsSigned}
use Rattle.std.proofs.lemmas.Int.{to_z-of_z}
use Rattle.hp_model.specs.Values.{integer}
use Rattle.hp_model.specs.Expressions.{value_of}
use Rattle.hp_value.specs.Mapped.{value, cause, environment, expression}
use Rattle.hp_query.specs.ByKey.{IsFalseElsewhere}
use Rattle.hp_query.proofs.by_key.asked_key.Goals as goal

pub returns-in-Ok-Int-clause-elsewhere : goal.returns-in-Ok-Int-clause-elsewhere
returns-in-Ok-Int-clause-elsewhere c =
    let env = environment c.args.env.now in
    let wanted = expression c.in-Some.wanted.now in
    let fits : FitsSigned w64 c.in-Ok-Int.key = search rules in
    let gives : value_of env wanted ≡ Ok (integer c.in-Ok-Int.key) = sym c.in-Ok-Int.ensures ∙ ap (λ v. Ok (value v)) c.in-Ok-Int.field-0-is in
    subst (IsFalseElsewhere env c.args.name.now (expression c.args.predicate.now)) (sym (to_z-of_z w64 c.in-Ok-Int.key fits))
    (c.in-Some.ensures.asks.asks env (cause c.in-Err.field-0) c.in-Ok-Int.key (sym c.in-Err.ensures) gives)
