use Rattle.std.proofs.Common.{◌≡◌, drop, map}
use Rattle.serde_json.specs.View.{view}
use Rattle.hp_model.specs.Decode.{units_from, no_item}
use Rattle.hp_rule.specs.Mapped.{library}
use Rattle.hp_rule.specs.Places.{steps}
use Rattle.hp_script.specs.Mapped.{schedule}
use Rattle.hp_script.specs.OwnBodies.{AreOf}
use Rattle.hp_script.specs.Scopes.{library_scope}
use Rattle.hp_script.specs.Versions.{version_view}
use Rattle.hp_script.proofs.item.units_at.Given as goal

abbrev pub invariant-loop-i : goal.invariant-loop-i
invariant-loop-i l = record {
  reads : units_from (version_view l.version) (library l.library.value).rules (library_scope (library l.library.value)) (steps l.place) (schedule l.schedule) l.i (map view (drop l.i l.values))
      ≡ units_from (version_view l.version) (library l.library.value).rules (library_scope (library l.library.value)) (steps l.place) no_item 0 (map view l.values);
  own : AreOf l.library.value l.schedule.units.items;
}
