use Rattle.std.proofs.Common.{◌∙◌, sym, ap₂}
use lib.Pointwise.{pointwise}
use Rattle.hp_value.specs.Mapped.{keyed_row}
use Rattle.hp_value.specs.Same.{keyed_same, objects_decides}
use Rattle.hp_value.proofs.Lists.{pointwise_map}
use Rattle.hp_value.proofs.Rows.{by_values}
use Rattle.hp_value.proofs.objects.ObjectListPartialEq.eq.Goals as goal

pub returns-then-has_names_of-clause-test : goal.returns-then-has_names_of-clause-test
returns-then-has_names_of-clause-test c =
    let alike = c.has_names_of.ensures c.if-has_names_of.true in
    c.has_values_of.ensures ∙ by_values c.args.self.now c.args.other.now alike.0 alike.1 alike.2

pub returns-then-has_names_of-clause-same : goal.returns-then-has_names_of-clause-same
returns-then-has_names_of-clause-same c =
    let alike = c.has_names_of.ensures c.if-has_names_of.true in
    let test = c.has_values_of.ensures ∙ by_values c.args.self.now c.args.other.now alike.0 alike.1 alike.2 in
    let decides = objects_decides c.args.self.now c.args.other.now in
    (λ is. decides.0 (sym test ∙ is), λ same. test ∙ decides.1 same)

pub returns-clause-test : goal.returns-clause-test
returns-clause-test c = c.eq.ensures ∙ pointwise_map keyed_row keyed_same c.self.inside.rows.items c.other.inside.rows.items ∙ ap₂ (pointwise keyed_same) c.self.view_is c.other.view_is

pub returns-clause-same : goal.returns-clause-same
returns-clause-same c =
    let test = c.eq.ensures ∙ pointwise_map keyed_row keyed_same c.self.inside.rows.items c.other.inside.rows.items ∙ ap₂ (pointwise keyed_same) c.self.view_is c.other.view_is in
    let decides = objects_decides c.args.self.now c.args.other.now in
    (λ is. decides.0 (sym test ∙ is), λ same. test ∙ decides.1 same)
