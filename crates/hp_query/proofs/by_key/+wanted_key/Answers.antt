use Rattle.std.proofs.Common.{◌≡◌, subst, sym, ap, ◌∙◌}
use Rattle.std.proofs.lemmas.Option.{IfSome_then}
use Rattle.hp_model.specs.Expressions.{both}
use Rattle.hp_value.specs.Mapped.{expression}
use Rattle.hp_query.specs.ByKey.{AsksFor}
use Rattle.hp_query.proofs.ByKeyLemmas.{asks_both}
use Rattle.hp_query.proofs.by_key.+wanted_key.Goals as goal

pub returns-in-And-clause-asks : goal.returns-in-And-clause-asks
returns-in-And-clause-asks t c =
    let first = expression c.deref.result.now in
    let second = expression c.in-And.field-1.value in
    let whole : expression c.args.predicate.now ≡ both first second = ap expression c.in-And.is ∙ ap (λ e. both (expression e) second) (sym c.deref.ensures) in
    IfSome_then c.wanted_key.result c.wanted_key.ensures.asks (λ w asks. subst (λ e. AsksFor c.args.name.now e (expression w.now)) (sym whole)
    (asks_both c.args.name.now first second (expression w.now) asks))
