-- What of a class follows from the reads of a view: then reading it once more records nothing.
use Rattle.std.specs.Prelude.{◌≡◌, ◌⊎◌, ℕ, true}
use Rattle.hp_view.specs.Seeing.{Seeing, keys_were_read, greatest_was_read, count_was_read, DeletesGreatest, WritesUnread}

-- its keys were read, or the greatest one was, and the writes don't delete that object
pub record KnowsGreatest (v : Seeing) (class : ℕ) : Type 0 where
  pub how : (keys_were_read v.reads class ≡ true) ⊎ ((greatest_was_read v.reads class ≡ true) × (DeletesGreatest v class → ⊥))

-- its keys were read, or the number of its objects was, and the writes name none whose cell wasn't read
pub record KnowsCount (v : Seeing) (class : ℕ) : Type 0 where
  pub how : (keys_were_read v.reads class ≡ true) ⊎ ((count_was_read v.reads class ≡ true) × (WritesUnread v class → ⊥))
