-- The items of a queue, and the invariants of its parts.
use Rattle.std.specs.Prelude.{◌≡◌, ℕ, ◌≤◌, List, ◌++◌, drop, length, Option}
use Rattle.std.specs.declared.sync.Arc.{Arc}
use Rattle.std.specs.declared.alloc.Global.{Global}
use Rattle.hp_model.specs.Occurrences.{Occurrence}
use Rattle.hp_detect.specs.declared.rope.Rope.{Rope}
use Rattle.hp_detect.specs.declared.queue.TheConstants.{MOST_IN_CHUNK}
use Rattle.hp_detect.specs.Shapes.{IsBalanced}
use Rattle.hp_detect.specs.Ropes.{rest_laid_out, RestIsCounted, RestIs}

abbrev pub waiting : (taken : ℕ) → (head : List Occurrence) → (middle : Option (Arc Rope Global)) → (tail : List Occurrence) → List Occurrence
waiting taken head middle tail = drop taken head ++ (rest_laid_out middle ++ tail)

-- the count is the number of items, no more of the head is taken than it has, the tail isn't more than full, and the
-- tree of the middle is balanced
pub record IsKept (count taken : ℕ) (head : List Occurrence) (middle : Option (Arc Rope Global)) (tail : List Occurrence) : Type 0 where
  pub counted : count ≡ length (waiting taken head middle tail)
  pub within_head : taken ≤ length head
  pub middle_counted : RestIsCounted middle
  pub middle_balanced : RestIs IsBalanced middle
  pub tail_fits : length tail ≤ MOST_IN_CHUNK
