-- The trees of ropes without their chunks: how high they are, and what adding chunks at the end and taking them from the
-- front makes of one chunk.
use Rattle.std.specs.Prelude.{◌≡◌, ℕ, suc, ◌+◌, ◌*◌, ◌^◌, ◌≤◌, ◌⊎◌, max}

pub data Shape : Type 0 where
  one_chunk : Shape
  node : (first second : Shape) → Shape

-- the most nodes above a chunk
abbrev pub height : Shape → ℕ
height one_chunk = 0
height (node first second) = suc (max (height first) (height second))

abbrev pub chunks : Shape → ℕ
chunks one_chunk = 1
chunks (node first second) = chunks first + chunks second

-- it is at most three nodes higher than the binary logarithm of its chunks
abbrev pub IsLow : Shape → Type 0
IsLow tree = 2 ^ height tree ≤ 8 * chunks tree

-- it has all chunks for which a tree of its height has room
abbrev pub IsFull : Shape → Type 0
IsFull tree = chunks tree ≡ 2 ^ height tree

-- chunks were only added: each first part is full, and the second one has at most as many
abbrev pub IsGrown : Shape → Type 0
IsGrown one_chunk = Unit {0}
IsGrown (node first second) = IsFull first × IsGrown second × (chunks second ≤ chunks first)

-- it was full, and the first chunks may have been taken
abbrev pub IsWorn : Shape → Type 0
IsWorn one_chunk = Unit {0}
IsWorn (node first second) = IsWorn first × IsFull second × (chunks first ≤ chunks second)

-- no chunk is added any more: the second part has at least as many as the first one, unless that is left of a full tree
abbrev pub IsSettled : Shape → Type 0
IsSettled one_chunk = Unit {0}
IsSettled (node first second) = IsGrown second × (IsWorn first ⊎ (IsSettled first × (chunks first ≤ chunks second)))

-- chunks are added to its second part and taken from its first one
abbrev pub IsBalanced : Shape → Type 0
IsBalanced one_chunk = Unit {0}
IsBalanced (node first second) = IsSettled first × IsGrown second
