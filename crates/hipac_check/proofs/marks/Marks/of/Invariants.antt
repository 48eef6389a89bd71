use Rattle.std.proofs.Common.{◌≡◌, ℕ, ◌*◌, ◌-◌, ◌<◌, ◌≤◌, length, Some}
use Rattle.std.specs.Prelude.{slice_get}
use Rattle.hp_model.specs.NotationPlaces as P
use Rattle.hp_text.specs.Places.{place_view}
use Rattle.hp_text.specs.declared.place.Place.{Place}
use Rattle.hipac_check.proofs.marks.Marks.of.Given as goal

abbrev pub invariant-loop-from : goal.invariant-loop-from
invariant-loop-from l = record {
  within : l.from ≤ length l.text;
  place : place_view l.place ≡ P.place_of l.text l.from;
  spans : l.from < length l.text → l.from ≡ 1024 * length l.places.items;
  known : (k : ℕ) (p : Place) → slice_get l.places.items k ≡ Some p → place_view p ≡ P.place_of l.text (1024 * k);
}

abbrev pub decreases-loop-from : goal.decreases-loop-from
decreases-loop-from l = length l.text - l.from
