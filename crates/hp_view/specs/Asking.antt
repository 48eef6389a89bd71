-- What a question about all objects of a class does to a view.
use Rattle.std.specs.Prelude.{◌≡◌, ◌⊎◌, ℕ}
use Rattle.hp_view.specs.Seeing.{Seeing, ReadsCount, ReadsGreatest}

-- the question how many there are: it reads nothing, or their number
pub record AsksCount (class : ℕ) (old new : Seeing) : Type 0 where
  pub either : (new ≡ old) ⊎ ReadsCount old new class

-- the question for their greatest key: it reads nothing, or this key
pub record AsksGreatest (class : ℕ) (old new : Seeing) : Type 0 where
  pub either : (new ≡ old) ⊎ ReadsGreatest old new class
