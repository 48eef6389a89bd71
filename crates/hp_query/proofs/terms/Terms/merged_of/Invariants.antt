use Rattle.std.proofs.Common.{◌≡◌, None, drop, map, option_map}
use Rattle.hp_model.specs.Conditions.{merged}
use Rattle.hp_value.specs.Mapped.{keyed_row, environment, expression, value}
use Rattle.hp_query.specs.Candidates.{tested}
use Rattle.hp_query.specs.Mapped.{merge}
use Rattle.hp_query.proofs.terms.Terms.merged_of.Given as goal

-- the objects that are left, merged into what there is so far, give what all give
abbrev pub invariant-loop-object : goal.invariant-loop-object
invariant-loop-object l =
    let asked = l.self.asked in
    let merged_into = merged (merge l.self.merge) (environment asked.env.now) asked.name.now (tested l.are_selected (expression asked.predicate.now)) (expression l.self.term.now) in
    merged_into (option_map value l.so_far) (map keyed_row (drop l.object-index l.objects)) ≡ merged_into None (map keyed_row l.objects)
