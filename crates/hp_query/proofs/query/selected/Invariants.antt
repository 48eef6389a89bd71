use Rattle.std.proofs.Common.{drop, map}
use Rattle.hp_value.specs.Mapped.{keyed_row, environment, expression}
use Rattle.hp_query.proofs.SelectLemmas.{IsLeft}
use Rattle.hp_query.proofs.query.selected.Given as goal

-- the selection of the objects that are left completes that of all
abbrev pub invariant-loop-object : goal.invariant-loop-object
invariant-loop-object l =
    IsLeft (environment l.asked.env.now) l.asked.name.now (expression l.asked.predicate.now) (map keyed_row l.objects) (map keyed_row (drop l.object-index l.objects)) (map keyed_row l.rows.items)
