-- The items of a rope as a list, that its counts are right, and its tree.
use Rattle.std.specs.Prelude.{◌≡◌, ℕ, ◌<◌, ◌+◌, List, [], ◌++◌, drop, length, Option, Some, None}
use Rattle.std.specs.declared.sync.Arc.{Arc}
use Rattle.std.specs.declared.alloc.Global.{Global}
use Rattle.hp_model.specs.Occurrences.{Occurrence}
use Rattle.hp_detect.specs.declared.queue.TheConstants.{MOST_IN_CHUNK}
use Rattle.hp_detect.specs.declared.rope.Rope.{Rope}
use Rattle.hp_detect.specs.declared.rope.Rope.TheVariants.{Leaf, Both'}
use Rattle.hp_detect.specs.Shapes.{Shape, one_chunk, node}

abbrev pub laid_out : Rope → List Occurrence
laid_out (Leaf chunk) = chunk
laid_out (Both' count p first q second) = laid_out first ++ laid_out second

-- each chunk is full, and each node's count is right
abbrev pub IsCounted : Rope → Type 0
IsCounted (Leaf chunk) = length chunk ≡ MOST_IN_CHUNK
IsCounted (Both' count p first q second) = (count ≡ length (laid_out first) + length (laid_out second)) × IsCounted first × IsCounted second

-- the same of a rope that may be missing
abbrev pub rest_laid_out : Option (Arc Rope Global) → List Occurrence
rest_laid_out None = []
rest_laid_out (Some rope) = laid_out rope.value

abbrev pub RestIsCounted : Option (Arc Rope Global) → Type 0
RestIsCounted None = Unit {0}
RestIsCounted (Some rope) = IsCounted rope.value

-- its tree without the chunks
abbrev pub shape : Rope → Shape
shape (Leaf chunk) = one_chunk
shape (Both' count p first q second) = node (shape first) (shape second)

-- the tree of a rope that may be missing and of one behind it
abbrev pub joined_shape : Option (Arc Rope Global) → Shape → Shape
joined_shape None second = second
joined_shape (Some rope) second = node (shape rope.value) second

-- its tree is of a kind, if it isn't missing
abbrev pub RestIs : (Shape → Type 0) → Option (Arc Rope Global) → Type 0
RestIs Kind None = Unit {0}
RestIs Kind (Some rope) = Kind (shape rope.value)

-- a non-empty part of a list that begins at an index
pub record IsRun {A : Type 0} (run : List A) (at : ℕ) (all : List A) : Type 0 where
  pub begins : drop at all ≡ run ++ drop (at + length run) all
  pub some : 0 < length run
