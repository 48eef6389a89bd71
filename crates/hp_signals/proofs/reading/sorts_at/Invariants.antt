use Rattle.std.proofs.Common.{◌≡◌, [], drop, map}
use Rattle.serde_json.specs.View.{view}
use Rattle.hp_model.specs.Parts.{read_from}
use Rattle.hp_analysis.specs.Kinded.{sort}
use Rattle.hp_rule.specs.Places.{steps}
use Rattle.hp_signals.specs.Signals.{sort_at}
use Rattle.hp_signals.proofs.reading.sorts_at.Given as goal

abbrev pub invariant-loop-i : goal.invariant-loop-i
invariant-loop-i l =
    read_from (λ _. sort_at) (steps l.place) (map sort l.sorts.items) l.i (map view (drop l.i l.values))
    ≡ read_from (λ _. sort_at) (steps l.place) [] 0 (map view l.values)
