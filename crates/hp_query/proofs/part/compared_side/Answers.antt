use Rattle.std.proofs.Common.{◌≡◌, subst, sym, rules}
use Rattle.hp_model.specs.Expressions.{compared}
use Rattle.hp_value.specs.Mapped.{attribute, comparison, expression}
use Rattle.hp_query.specs.Parts.{Compares, expression_of, turned}
use Rattle.hp_query.proofs.AskedLemmas.{compares_left, compares_right}
use Rattle.hp_query.proofs.part.compared_side.Goals as goal

pub returns-in-Some-clause-compares : goal.returns-in-Some-clause-compares
returns-in-Some-clause-compares c =
    let name = c.args.name.now in
    let op = comparison c.args.compares in
    let other = expression c.args.b.now in
    let own = attribute c.in-Some.attribute in
    subst (λ e. Compares name (compared op e other) own op other) (sym c.in-Some.ensures.told) (compares_left name op own other)

pub returns-clause-compares : goal.returns-clause-compares
returns-clause-compares c =
    let name = c.args.name.now in
    let op = comparison c.args.compares in
    let other = expression c.args.a.now in
    let own = attribute c.in_ok-attribute.attribute in
    let is : expression c.args.b.now ≡ expression_of name own = search rules in
    let compares : Compares name (compared op other (expression c.args.b.now)) own (turned op) other =
    subst (λ e. Compares name (compared op other e) own (turned op) other) (sym is) (compares_right name op own other) in
    subst (λ t. Compares name (compared op other (expression c.args.b.now)) own t other) (sym c.sides_changed.ensures) compares
