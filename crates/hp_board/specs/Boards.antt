-- Boards in contracts.
use Rattle.std.specs.Prelude.{◌≡◌, ℕ, List, length}
use Rattle.hp_board.specs.Deal.{Deal, IsCounter}

-- the counter of its numbers, and the names of its cells, one for each number
pub record BoardView : Type 0 where
  pub deal : Deal
  pub cells : List ℕ

-- a board of n numbers and as many cells, for k seats
abbrev pub IsBoard : ℕ → ℕ → BoardView → Type 0
IsBoard n k b = IsCounter n k b.deal × (length b.cells ≡ n)
