use Rattle.std.proofs.Common.{◌≡◌, ℕ, ◌<◌, length, get_or}
use Rattle.hp_store.proofs.place.start_of.Given as goal

abbrev pub invariant-loop-i : goal.invariant-loop-i
invariant-loop-i l = record {
  has : length l.first ≡ 32;
  so_far : (k : ℕ) → k < l.i → get_or l.first k 0 ≡ get_or l.bytes k 0;
}
