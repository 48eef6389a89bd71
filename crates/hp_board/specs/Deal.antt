-- Numbers that seats draw from one counter.
--
-- The counter is the number of draws so far. Each seat has a view, its tally: what it drew, how often it found no number
-- left, and its shares. The rule says that all tallies together have drawn the numbers below the counter, each once. A
-- tally with all shares has drawn all of them, and so knows all that was drawn.
use Rattle.std.specs.Prelude.{◌≡◌, ℕ, ◌+◌, ◌-◌, ◌<◌, ◌≤◌, ◌^◌, List, [], ◌∷◌, ◌++◌, length, min, Bool, true, false, cond, nat_lt, nat_eq, All}
use mathlib.Core.Option.{some}
use lib.ListN.{get_elem?}
use Rattle.atomic_table.specs.Table.{State, Me}
use Rattle.atomic_table.specs.Seated.{TableId}
use Rattle.hp_board.specs.declared.tally.Tally.{Tally}
use Rattle.hp_board.specs.declared.tally.Shape.{Shape}

-- how often x occurs in the list
abbrev pub times : ℕ → List ℕ → ℕ
times x [] = 0
times x (y ∷ ys) = cond (nat_eq y x) 1 0 + times x ys

-- 1 for a number below n, otherwise 0
abbrev pub once_below : ℕ → ℕ → ℕ
once_below x n = cond (nat_lt x n) 1 0

-- the sum of f over the elements
abbrev pub total : {X : Type 0} → (X → ℕ) → List X → ℕ
total f [] = 0
total f (v ∷ vs) = f v + total f vs

abbrev pub tally : ℕ → ℕ → List ℕ → ℕ → Tally
tally numbers parts drawn missed = record { numbers = numbers; parts = parts; drawn = drawn; missed = missed }

-- what each tally says, where the counter is w
pub record IsTally (numbers w : ℕ) (v : Tally) : Type 0 where
  -- a tally without shares has drawn nothing
  pub idle : v.parts ≡ 0 → v.drawn ≡ []
  -- a tally with a share knows the number of tasks
  pub same : 0 < v.parts → v.numbers ≡ numbers
  -- each share finds at most once that no number is left
  pub missed : v.missed ≤ v.parts
  pub past : 0 < v.missed → numbers ≤ w

-- The rule, where the counter is w. The counter stays within 64 bits, since each seat finds at most once that no number
-- is left.
pub record IsCounted (shape : Shape) (w : ℕ) (views : List Tally) : Type 0 where
  pub fits : shape.numbers + shape.seats < 2 ^ 64
  pub parts : total (λ v. v.parts) views ≡ shape.seats
  pub drawn : (x : ℕ) → total (λ v. times x v.drawn) views ≡ once_below x (min w shape.numbers)
  pub bound : w ≤ shape.numbers + total (λ v. v.missed) views
  pub each : (k : ℕ) (v : Tally) → get_elem? views k ≡ some v → IsTally shape.numbers w v

-- the rule of the table: one word, the counter, under the rule above
abbrev pub Counted : Shape → State ℕ Tally → Type 0
Counted shape s = (w : ℕ) × (s.words ≡ w ∷ []) × IsCounted shape w s.views

-- the tally after a draw that found this counter
abbrev pub after_draw : Tally → ℕ → Tally
after_draw v found = cond (nat_lt found v.numbers) (tally v.numbers v.parts (v.drawn ++ found ∷ []) v.missed) (tally v.numbers v.parts v.drawn (v.missed + 1))

-- one share less
abbrev pub fewer : Tally → Tally
fewer v = tally v.numbers (v.parts - 1) v.drawn v.missed

-- one share, and nothing drawn
abbrev pub newcomer : Tally → Tally
newcomer v = tally v.numbers 1 [] 0

-- two tallies in one
abbrev pub joined : Tally → Tally → Tally
joined v w = tally v.numbers (v.parts + w.parts) (v.drawn ++ w.drawn) (v.missed + w.missed)

-- what is left of a tally that was joined to another
abbrev pub nobody : Tally
nobody = tally 0 0 [] 0

-- a table of one word and no slots
abbrev pub IsOneWord : TableId → Type 0
IsOneWord id = (id.words ≡ 1) × (id.slots ≡ 0)

-- what a counter of n numbers for k seats keeps of its table
pub record IsTable (id : TableId) (key : Shape) (n k : ℕ) : Type 0 where
  pub word : IsOneWord id
  pub numbers : key.numbers ≡ n
  pub seats : key.seats ≡ k
  pub seated : 0 < k

-- What a seat keeps of its token: one share and no slot. It has found at most once that no number is left, which makes
-- it done.
pub record IsToken (me : Me ℕ Tally) (done : Bool) : Type 0 where
  pub slots : me.1 ≡ []
  pub parts : me.0.parts ≡ 1
  pub missed : me.0.missed ≡ cond done 1 0

-- ---- contracts

-- A seat: its table, how many numbers there are, what it has drawn in order, and whether it has found that none is
-- left.
pub record Taken : Type 0 where
  pub table : TableId
  pub numbers : ℕ
  pub drawn : List ℕ
  pub done : Bool

-- A counter: its table, how many numbers there are, and how many seats.
pub record Deal : Type 0 where
  pub table : TableId
  pub numbers : ℕ
  pub seats : ℕ

-- a counter of the numbers below n, for k seats
abbrev pub IsCounter : ℕ → ℕ → Deal → Type 0
IsCounter n k d = (d.numbers ≡ n) × (d.seats ≡ k)

-- a seat of this counter
abbrev pub IsSeatOf : Deal → Taken → Type 0
IsSeatOf d t = (t.table ≡ d.table) × (t.numbers ≡ d.numbers)

-- a seat of this counter that has drawn nothing yet
abbrev pub IsFresh : Deal → Taken → Type 0
IsFresh d t = IsSeatOf d t × (t.drawn ≡ []) × (t.done ≡ false)

-- the seat has drawn i, and is not done
abbrev pub DrawsNumber : Taken → ℕ → Taken → Type 0
DrawsNumber before i after = (after.drawn ≡ before.drawn ++ i ∷ []) × (after.done ≡ false)

-- the seat has drawn nothing more, and is done
abbrev pub FindsNone : Taken → Taken → Type 0
FindsNone before after = (after.drawn ≡ before.drawn) × (after.done ≡ true)

-- how often x was drawn by these seats
abbrev pub times_in : ℕ → List Taken → ℕ
times_in x ts = total (λ t. times x t.drawn) ts

-- ---- the end

-- the tally holds all that these seats have drawn
pub record Gathers (v : Tally) (ts : List Taken) : Type 0 where
  pub parts : v.parts ≡ length ts
  pub drawn : (x : ℕ) → times x v.drawn ≡ times_in x ts
  pub missed : v.missed ≡ total (λ t. cond t.done 1 0) ts

-- what a tally knows at the end, where the word is w
pub record Knows (shape : Shape) (w : ℕ) (v : Tally) : Type 0 where
  pub once : (x : ℕ) → times x v.drawn ≤ once_below x (min w shape.numbers)
  pub every : v.parts ≡ shape.seats → (x : ℕ) → times x v.drawn ≡ once_below x (min w shape.numbers)
  pub past : 0 < v.missed → shape.numbers ≤ w

-- what these seats have drawn, of n numbers and k seats, where the word ends at w
pub record Ended (n k : ℕ) (ts : List Taken) (w : ℕ) : Type 0 where
  pub once : (x : ℕ) → times_in x ts ≤ once_below x (min w n)
  pub every : length ts ≡ k → (x : ℕ) → times_in x ts ≡ once_below x (min w n)
  pub done : All (λ t. t.done ≡ true → n ≤ w) ts
