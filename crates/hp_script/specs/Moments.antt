-- The first moment that is named after a time, and short lists of moments.
use Rattle.std.specs.Prelude.{◌≡◌, ℕ, ◌^◌, ◌<◌, nat_lt, min, List, length, Bool, true, false, Option, Some, None, if◌then◌else◌}

-- the first moment after a time that is named; the clock stays below 2^63
pub record IsNext (named : ℕ → Bool) (after n : ℕ) : Type 0 where
  pub above : after < n
  pub is : named n ≡ true
  pub first : (m : ℕ) → after < m → m < n → m < 2 ^ 63 → named m ≡ false

-- the first such moment, if there is one
abbrev pub NextOf : (ℕ → Bool) → ℕ → Option ℕ → Type 0
NextOf named after None = (m : ℕ) → after < m → m < 2 ^ 63 → named m ≡ false
NextOf named after (Some n) = IsNext named after n

abbrev pub earlier : Option ℕ → Option ℕ → Option ℕ
earlier None b = b
earlier (Some a) None = Some a
earlier (Some a) (Some b) = Some (min a b)

-- at most 1,000
abbrev pub limited : List ℕ → Option (List ℕ)
limited ts = if nat_lt 1000 (length ts) then None else Some ts
