-- The selection of a class's rows, one after another.
use Rattle.std.proofs.Common.{◌+◌, ◌<◌, length, get_or, drop, subst, ◌≡◌, ℕ, Bool, true, false, List, [], ◌∷◌, ◌++◌, map, Ok, Err, if◌then◌else◌, refl, sym, ap, ◌∙◌, append_assoc, append-nil}
use Rattle.std.proofs.lemmas.List.{at_drop_more, length-append}
use Rattle.hp_model.specs.Values.{Name, KeyedRow, Cause, Outcome, ◌>>=◌}
use Rattle.hp_model.specs.Expressions.{Expression, Environment, bound, as_boolean, value_of}
use Rattle.hp_model.specs.Firing.{boolean_value}
use Rattle.hp_model.specs.Conditions.{selected}
use Rattle.hp_value.specs.declared.row.KeyedRow.{KeyedRow as RustRow}
use Rattle.hp_value.specs.Mapped.{keyed_row}
use Rattle.hp_query.specs.Candidates.{counted}

-- the value of a predicate at a row
abbrev pub test : Environment → Name → Expression → KeyedRow → Outcome Bool
test env x predicate r = boolean_value (bound x r env) predicate

-- an object is the first that is left
pub next_left : (objects : List RustRow) (i : ℕ) (object : RustRow) → i < length objects → object ≡ get_or objects i object
    → map keyed_row (drop i objects) ≡ keyed_row object ∷ map keyed_row (drop (i + 1) objects)
next_left objects i object within is = at_drop_more (map keyed_row) objects i object within ∙ ap (λ o. keyed_row o ∷ map keyed_row (drop (i + 1) objects)) (sym is)

-- selected rows in front of those of the rest
abbrev pub with_front : List KeyedRow → Outcome (List KeyedRow) → Outcome (List KeyedRow)
with_front front rest = rest >>= λ rows. Ok (front ++ rows)

-- one step and then another, in either grouping
bind_assoc : {A B C : Type 0} (o : Outcome A) (f : A → Outcome B) (g : B → Outcome C) → (o >>= λ a. f a >>= g) ≡ (o >>= f) >>= g
bind_assoc (Ok a) f g = refl
bind_assoc (Err c) f g = refl

pub bind_ok : {A : Type 0} (o : Outcome A) → (o >>= λ a. Ok a) ≡ o
bind_ok (Ok a) = refl
bind_ok (Err c) = refl

front_nothing : (o : Outcome (List KeyedRow)) → with_front [] o ≡ o
front_nothing (Ok rows) = refl
front_nothing (Err c) = refl

front_more : (front : List KeyedRow) (r : KeyedRow) (o : Outcome (List KeyedRow)) → with_front (front ++ r ∷ []) o ≡ with_front front (o >>= λ rows. Ok (r ∷ rows))
front_more front r (Ok rows) = ap Ok (append_assoc front (r ∷ []) rows)
front_more front r (Err c) = refl

module _ (env : Environment) (x : Name) (predicate : Expression) where
  -- the selection of a first row, and then of the others
  abbrev pub kept_by : Bool → KeyedRow → List KeyedRow → Outcome (List KeyedRow)
  kept_by keep r rest = selected env x predicate rest >>= λ rows. Ok (if keep then r ∷ rows else rows)

  pub selected-cons : (r : KeyedRow) (rest : List KeyedRow) (o : Outcome Bool) → test env x predicate r ≡ o → selected env x predicate (r ∷ rest) ≡ (o >>= λ keep. kept_by keep r rest)
  selected-cons r rest o is =
      bind_assoc (value_of (bound x r env) predicate) as_boolean (λ keep. kept_by keep r rest) ∙ ap (λ p. p >>= λ keep. kept_by keep r rest) is

  -- the front followed by the selection of the rows that are left is the selection of all
  abbrev pub IsLeft : (all left front : List KeyedRow) → Type 0
  IsLeft all left front = with_front front (selected env x predicate left) ≡ selected env x predicate all

module _ (env : Environment) (x : Name) (predicate : Expression) (all : List KeyedRow) where
  pub left_at_first : IsLeft env x predicate all all []
  left_at_first = front_nothing (selected env x predicate all)

  pub left_at : (objects : List RustRow) (i : ℕ) (object : RustRow) (front : List KeyedRow) → i < length objects → object ≡ get_or objects i object
      → IsLeft env x predicate all (map keyed_row (drop i objects)) front
      → IsLeft env x predicate all (keyed_row object ∷ map keyed_row (drop (i + 1) objects)) front
  left_at objects i object front within is left =
      subst (λ rows. IsLeft env x predicate all rows front) (next_left objects i object within is) left

  pub left_kept : (r : KeyedRow) (rest front : List KeyedRow) → IsLeft env x predicate all (r ∷ rest) front → Ok true ≡ test env x predicate r → IsLeft env x predicate all rest (front ++ r ∷ [])
  left_kept r rest front left holds =
      front_more front r (selected env x predicate rest) ∙ ap (with_front front) (sym (selected-cons env x predicate r rest (Ok true) (sym holds))) ∙ left

  pub left_dropped : (r : KeyedRow) (rest front : List KeyedRow) → IsLeft env x predicate all (r ∷ rest) front → Ok false ≡ test env x predicate r → IsLeft env x predicate all rest front
  left_dropped r rest front left holds =
      ap (with_front front) (sym (bind_ok (selected env x predicate rest)) ∙ sym (selected-cons env x predicate r rest (Ok false) (sym holds))) ∙ left

  -- the first fault is the whole's
  pub left_fault : (r : KeyedRow) (rest front : List KeyedRow) (c : Cause) → IsLeft env x predicate all (r ∷ rest) front → Err c ≡ test env x predicate r → Err c ≡ selected env x predicate all
  left_fault r rest front c left faults = ap (with_front front) (sym (selected-cons env x predicate r rest (Err c) (sym faults))) ∙ left

  pub left_nothing : (front : List KeyedRow) → IsLeft env x predicate all [] front → Ok front ≡ selected env x predicate all
  left_nothing front left = ap Ok (sym (append-nil front)) ∙ left

  -- ---- the same, with the number of rows in the front

  pub record Counts (left : List KeyedRow) (count : ℕ) : Type 0 where
    pub front : List KeyedRow
    pub len : length front ≡ count
    pub is_left : IsLeft env x predicate all left front

  pub counts_first : Counts all 0
  counts_first = record { front = []; len = refl; is_left = left_at_first }

  pub counts_at : (objects : List RustRow) (i : ℕ) (object : RustRow) {count : ℕ} → i < length objects → object ≡ get_or objects i object → Counts (map keyed_row (drop i objects)) count
      → Counts (keyed_row object ∷ map keyed_row (drop (i + 1) objects)) count
  counts_at objects i object {count} within is counts = record { front = counts.front; len = counts.len; is_left = left_at objects i object counts.front within is counts.is_left }

  pub counts_one : (r : KeyedRow) (rest : List KeyedRow) {count : ℕ} → Counts (r ∷ rest) count → Ok true ≡ test env x predicate r → Counts rest (count + 1)
  counts_one r rest {count} counts holds = record {
    front = counts.front ++ r ∷ [];
    len = length-append counts.front (r ∷ []) ∙ ap (λ n. n + 1) counts.len;
    is_left = left_kept r rest counts.front counts.is_left holds;
  }

  pub counts_none : (r : KeyedRow) (rest : List KeyedRow) {count : ℕ} → Counts (r ∷ rest) count → Ok false ≡ test env x predicate r → Counts rest count
  counts_none r rest counts holds = record { front = counts.front; len = counts.len; is_left = left_dropped r rest counts.front counts.is_left holds }

  pub counts_fault : (r : KeyedRow) (rest : List KeyedRow) {count : ℕ} (c : Cause) → Counts (r ∷ rest) count → Err c ≡ test env x predicate r → Err c ≡ counted (selected env x predicate all)
  counts_fault r rest c counts faults = ap counted (left_fault r rest counts.front c counts.is_left faults)

  pub counts_last : {count : ℕ} → Counts [] count → Ok count ≡ counted (selected env x predicate all)
  counts_last counts = ap Ok (sym counts.len) ∙ ap counted (left_nothing counts.front counts.is_left)
