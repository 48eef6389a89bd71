-- What is known of cells that are set once.
--
-- A cell has a name, and once it is set, one value for good. A pass is what one thread knows of a board's cells: for
-- each cell its value, once the thread has seen it.
use Rattle.std.specs.Coded.{Coded, code_by, coded×, coded_ℕ, coded_list, coded_option}
use Rattle.std.specs.Prelude.{◌≡◌, ℕ, refl, List, map, slice_set, slice_index_or, Option, None, Some, IfSome}

-- a cell by its name, and its value, once it is known
pub record Fact (T : Type 0) : Type 0 where
  pub cell : ℕ
  pub known : Option T

-- a fact is stored as the pair of its fields
abbrev pub fact_code : {T : Type 0} → Coded T → Coded (Fact T)
fact_code {T} c = code_by (ℕ × Option T) (coded× coded_ℕ (coded_option c)) (λ f. (f.cell, f.known)) (λ p. record { cell = p.0; known = p.1 }) (λ _. refl)

abbrev pub facts_code : {T : Type 0} → Coded T → Coded (List (Fact T))
facts_code c = coded_list (fact_code c)

abbrev pub fact : {T : Type 0} → ℕ → Option T → Fact T
fact c k = record { cell = c; known = k }

-- the names of the facts' cells
abbrev pub cells_of : {T : Type 0} → List (Fact T) → List ℕ
cells_of facts = map (λ f. f.cell) facts

-- what is known of cell i
abbrev pub known_at : {T : Type 0} → List (Fact T) → ℕ → Option T
known_at facts i = (slice_index_or facts i (fact 0 None)).known

-- x is what k knows, if it knows a value
abbrev pub Agrees : {T : Type 0} → Option T → T → Type 0
Agrees k x = IfSome k (λ y. y ≡ x)

-- the pass is one of these cells
abbrev pub IsPassOf : {T : Type 0} → List ℕ → List (Fact T) → Type 0
IsPassOf cells facts = cells_of facts ≡ cells

-- the pass now knows x for cell i, for which it knew no other value; for other cells it knows what it knew
abbrev pub Learns : {T : Type 0} → List (Fact T) → ℕ → T → List (Fact T) → Type 0
Learns before i x after = (after ≡ slice_set before i (fact (slice_index_or before i (fact 0 None)).cell (Some x))) × Agrees (known_at before i) x

-- two passes that know a value of cell i know the same value
abbrev pub AgreeAt : {T : Type 0} → List (Fact T) → List (Fact T) → ℕ → Type 0
AgreeAt one other i = IfSome (known_at other i) (Agrees (known_at one i))
