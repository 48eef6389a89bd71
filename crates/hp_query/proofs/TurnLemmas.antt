-- Questions about classes, one after another.
use Rattle.std.proofs.Common.{◌≡◌, ℕ, ◌+◌, ◌<◌, length, get_or, drop, List, [], ◌∷◌, ◌++◌, map, refl, subst}
use Rattle.std.specs.List.{flat_map}
use Rattle.hp_query.specs.Looks.{AsksEach}
use Rattle.hp_query.proofs.VerdictLemmas.{split_at}

-- with questions about the classes that are left, all were asked in turn
pub record AsksLeft {A : Type 0} (asks : ℕ → A → A → Type 0) (all left : List ℕ) (first now : A) : Type 0 where
  pub rest : (last : A) → AsksEach asks left now last → AsksEach asks all first last

module _ {A : Type 0} (asks : ℕ → A → A → Type 0) where
  asks_none : ((class : ℕ) (look : A) → asks class look look) → (left : List ℕ) (now : A) → AsksEach asks left now now
  asks_none same [] now = refl
  asks_none same (class ∷ left) now = (now, same class now, asks_none same left now)

  asks_append : (classes left : List ℕ) (first now last : A) → AsksEach asks classes first now → AsksEach asks left now last → AsksEach asks (classes ++ left) first last
  asks_append [] left first now last same each = subst (λ look. AsksEach asks left look last) same each
  asks_append (class ∷ classes) left first now last asked each =
      (asked.0, asked.1, asks_append classes left asked.0 now last asked.2 each)

  pub left_at : {Q E : Type 0} (f : E → List ℕ) (h : Q → E) (xs : List Q) (i : ℕ) (x : Q) {all : List ℕ} {first now : A} → i < length xs → x ≡ get_or xs i x
      → AsksLeft asks all (flat_map f (map h (drop i xs))) first now → AsksLeft asks all (f (h x) ++ flat_map f (map h (drop (i + 1) xs))) first now
  left_at f h xs i x {all} {first} {now} within is former = subst (λ ys. AsksLeft asks all (flat_map f (map h ys)) first now) (split_at xs i x within is) former

  pub left_next : (classes : List ℕ) {all left : List ℕ} {first now : A} (next : A) → AsksEach asks classes now next → AsksLeft asks all (classes ++ left) first now → AsksLeft asks all left first next
  left_next classes {all} {left} {first} {now} next asked former = record { rest = λ last each. former.rest last (asks_append classes left now next last asked each) }

  pub left_unasked : ((class : ℕ) (look : A) → asks class look look) → (all : List ℕ) {left : List ℕ} (first now : A) → AsksLeft asks all left first now → AsksEach asks all first now
  left_unasked same all {left} first now former = former.rest now (asks_none same left now)

  pub asked_last : ((class : ℕ) (look : A) → asks class look look) → {Q E : Type 0} (f : E → List ℕ) (h : Q → E) (xs : List Q) (i : ℕ) (x : Q) (all : List ℕ) (first : A) {now : A} (next : A)
      → i < length xs → x ≡ get_or xs i x → AsksEach asks (f (h x)) now next → AsksLeft asks all (flat_map f (map h (drop i xs))) first now → AsksEach asks all first next
  asked_last same f h xs i x all first next within is asked former =
      left_unasked same all first next (left_next (f (h x)) next asked (left_at f h xs i x within is former))
