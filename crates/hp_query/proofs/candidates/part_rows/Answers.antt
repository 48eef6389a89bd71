use Rattle.std.proofs.Common.{subst, sym, rules}
use Rattle.hp_model.specs.State.{rows_of}
use Rattle.hp_value.specs.Mapped.{attribute, class_part, comparison, environment, expression, value}
use Rattle.hp_query.specs.Mapped.{keyed_rows}
use Rattle.hp_query.specs.Parts.{IsFalseOutside, IsTrueInside, part_compared}
use Rattle.hp_query.proofs.CandidateLemmas.{rows_of_part, true_in_part}
use Rattle.hp_query.proofs.candidates.part_rows.Goals as goal

pub returns-then-is_exact-clause-rows : goal.returns-then-is_exact-clause-rows
returns-then-is_exact-clause-rows g c = λ world rise allowed.
    let asked = c.args.asked.now in
    let env = environment asked.env.now in
    let predicate = expression asked.predicate.now in
    let told : IsFalseOutside env asked.name.now predicate (part_compared (attribute c.in-Some.compared.attribute) (comparison c.in-Some.compared.comparison)
    (value c.in-Some.compared.value)) = search rules in
    let outside = subst (IsFalseOutside env asked.name.now predicate) (sym c.in-Some-class_part.ensures.part) told in
    let listed = rw c.in-Some-2.is at c.in_ok-rows.ensures.listed in
    rows_of_part env asked.name.now predicate (class_part c.in-Some-class_part.part) (rows_of asked.class world) (keyed_rows c.in-Some-2.rows) outside (listed world rise allowed)

pub returns-then-is_exact-clause-selected : goal.returns-then-is_exact-clause-selected
returns-then-is_exact-clause-selected g c = λ known world rise allowed.
    let asked = c.args.asked.now in
    let env = environment asked.env.now in
    let predicate = expression asked.predicate.now in
    let told : IsTrueInside env asked.name.now predicate (part_compared (attribute c.in-Some.compared.attribute) (comparison c.in-Some.compared.comparison)
    (value c.in-Some.compared.value)) = search rules in
    let inside = subst (IsTrueInside env asked.name.now predicate) (sym c.in-Some-class_part.ensures.part) told in
    let listed = rw c.in-Some-2.is at c.in_ok-rows.ensures.listed in
    true_in_part env asked.name.now predicate (class_part c.in-Some-class_part.part) (rows_of asked.class world) (keyed_rows c.in-Some-2.rows) inside (listed world rise allowed)

pub returns-clause-rows : goal.returns-clause-rows
returns-clause-rows g c = λ world rise allowed.
    let asked = c.args.asked.now in
    let env = environment asked.env.now in
    let predicate = expression asked.predicate.now in
    let told : IsFalseOutside env asked.name.now predicate (part_compared (attribute c.in-Some.compared.attribute) (comparison c.in-Some.compared.comparison)
    (value c.in-Some.compared.value)) = search rules in
    let outside = subst (IsFalseOutside env asked.name.now predicate) (sym c.in-Some-class_part.ensures.part) told in
    let listed = rw c.in-Some-2.is at c.in_ok-rows.ensures.listed in
    rows_of_part env asked.name.now predicate (class_part c.in-Some-class_part.part) (rows_of asked.class world) (keyed_rows c.in-Some-2.rows) outside (listed world rise allowed)
