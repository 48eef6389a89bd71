use Rattle.std.proofs.Common.{◌≡◌, [], drop, map}
use Rattle.serde_json.specs.View.{view}
use Rattle.hp_model.specs.Parts.{read_from}
use Rattle.hp_model.specs.Scopes.{class_names}
use Rattle.hp_model.specs.Decode.{entry_at}
use Rattle.hp_query.specs.Mapped.{entry}
use Rattle.hp_rule.specs.Places.{steps}
use Rattle.hp_script.specs.Forms.{scope_view, version_view}
use Rattle.hp_script.proofs.entry.condition_at.Given as goal

abbrev pub invariant-loop-i : goal.invariant-loop-i
invariant-loop-i l =
    let read = entry_at (version_view l.scope.version) (class_names (scope_view l.scope).classes) in
    read_from read (steps l.place) (map entry l.entries.items) l.i (map view (drop l.i l.values)) ≡ read_from read (steps l.place) [] 0 (map view l.values)
