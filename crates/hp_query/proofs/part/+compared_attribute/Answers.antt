use Rattle.std.proofs.Common.{◌≡◌, subst, sym, ap, ap₂, ◌∙◌}
use Rattle.std.proofs.lemmas.Option.{IfSome_then}
use Rattle.hp_model.specs.Expressions.{both, compared}
use Rattle.hp_value.specs.Mapped.{attribute, comparison, expression}
use Rattle.hp_query.specs.Parts.{AsksForPart}
use Rattle.hp_query.proofs.AskedLemmas.{asks_by, asks_through_both}
use Rattle.hp_query.proofs.part.+compared_attribute.Goals as goal

pub returns-in-And-clause-asks : goal.returns-in-And-clause-asks
returns-in-And-clause-asks t c =
    let first = expression c.deref.result.now in
    let second = expression c.in-And.field-1.value in
    let whole : expression c.args.predicate.now ≡ both first second = ap expression c.in-And.is ∙ ap (λ e. both (expression e) second) (sym c.deref.ensures) in
    IfSome_then c.compared_attribute.result c.compared_attribute.ensures.asks
    (λ w asks. subst (λ e. AsksForPart c.args.name.now e (attribute w.attribute) (comparison w.comparison) (expression w.other.now)) (sym whole)
    (asks_through_both c.args.name.now first second (attribute w.attribute) (comparison w.comparison) (expression w.other.now) asks))

pub returns-in-Comparison-clause-asks : goal.returns-in-Comparison-clause-asks
returns-in-Comparison-clause-asks t c =
    let op = comparison c.in-Comparison.compares in
    let whole : expression c.args.predicate.now ≡ compared op (expression c.deref-in-Comparison.result.now) (expression c.deref-in-Comparison-2.result.now) =
    ap expression c.in-Comparison.is ∙ ap₂ (λ a b. compared op (expression a) (expression b)) (sym c.deref-in-Comparison.ensures) (sym c.deref-in-Comparison-2.ensures) in
    IfSome_then c.compared_side.result c.compared_side.ensures.compares
    (λ w is. subst (λ e. AsksForPart c.args.name.now e (attribute w.attribute) (comparison w.comparison) (expression w.other.now)) (sym whole)
    (asks_by c.args.name.now _ (attribute w.attribute) (comparison w.comparison) (expression w.other.now) is))
