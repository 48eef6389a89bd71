use Rattle.std.proofs.Common.{Err, map, drop, sym, ◌∙◌, ap, subst, ◌+◌, option_map}
use Rattle.std.proofs.lemmas.Result.{err_from_is_err_and}
use Rattle.hp_model.specs.Conditions.{merged}
use Rattle.hp_value.specs.Mapped.{Meets, keyed_row, environment, expression, value}
use Rattle.hp_query.specs.Candidates.{tested}
use Rattle.hp_query.specs.Mapped.{merge}
use Rattle.hp_query.proofs.SelectLemmas.{next_left}
use Rattle.hp_query.proofs.TermLemmas.{merged_first, merged_halt}
use Rattle.hp_query.proofs.terms.Terms.merged_of.Goals as goal

pub returns-in_err-so_far : goal.returns-in_err-so_far
returns-in_err-so_far c =
    let asked = c.args.self.now.asked in
    let env = environment asked.env.now in
    let predicate = tested c.args.are_selected (expression asked.predicate.now) in
    let term = expression c.args.self.now.term.now in
    let how = merge c.args.self.now.merge in
    let object = c.object-item.result in
    let so_far = option_map value c.loop-object.so_far in
    let p = err_from_is_err_and c.from_residual.result c.from_residual.ensures.1 in
    let left = next_left c.args.objects.now c.loop-object.object-index object c.loop-object-test.true c.object-item.is in
    rw (p.1, p.2) (subst (Meets (option_map value) (Err c.in_err-so_far.field-0.0)) (ap (merged how env asked.name.now predicate term so_far) (sym left) ∙ c.loop-object.invariant)
    (merged_halt how env asked.name.now predicate term so_far (keyed_row object) (map keyed_row (drop (c.loop-object.object-index + 1) c.args.objects.now)) _ c.in_err-so_far.ensures))

pub loop-object-preserved : goal.loop-object-preserved
loop-object-preserved c =
    let asked = c.args.self.now.asked in
    let env = environment asked.env.now in
    let predicate = tested c.args.are_selected (expression asked.predicate.now) in
    let term = expression c.args.self.now.term.now in
    let how = merge c.args.self.now.merge in
    let object = c.object-item.result in
    let so_far = option_map value c.loop-object.so_far in
    let left = next_left c.args.objects.now c.loop-object.object-index object c.loop-object-test.true c.object-item.is in
    merged_first how env asked.name.now predicate term so_far _ (keyed_row object) (map keyed_row (drop (c.loop-object.object-index + 1) c.args.objects.now)) c.in_ok-so_far.ensures
    ∙ ap (merged how env asked.name.now predicate term so_far) (sym left) ∙ c.loop-object.invariant
