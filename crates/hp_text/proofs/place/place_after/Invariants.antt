use Rattle.std.proofs.Common.{◌≡◌, ◌+◌, ◌≤◌, take}
use Rattle.std.specs.Prelude.{fold}
use Rattle.hp_model.specs.NotationPlaces as P
use Rattle.hp_text.specs.Places.{place_view}
use Rattle.hp_text.proofs.place.place_after.Given as goal

abbrev pub invariant-loop-byte : goal.invariant-loop-byte
invariant-loop-byte l = record {
  place : place_view l.place ≡ fold P.after_byte (place_view l.fn.before) (take l.byte-index l.bytes);
  line : l.place.line ≤ l.fn.before.line + l.byte-index;
  column : l.place.column ≤ l.fn.before.column + l.byte-index;
}
