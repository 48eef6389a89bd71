-- Places from one offset of a text to another.
use Rattle.std.proofs.Common.{arith, ◌≡◌, refl, sym, ap, ◌∙◌, ℕ, suc, ◌+◌, ◌-◌, ◌≤◌, List, [], ◌∷◌, length, take, Bool, true, false}
use Rattle.std.proofs.Math.Seq.{take-add}
use Rattle.std.proofs.lemmas.List.{length-take}
use Rattle.std.proofs.lemmas.List.Sums.{fold-append}
use Rattle.std.specs.Prelude.{◌==◌, if◌then◌else◌, slice_range}
use Rattle.std.specs.List.{fold}
use Rattle.hp_model.specs.NotationPlaces.{Place, continues_character, after_byte, place_of}

abbrev pub start : Place
start = record { line = 1; column = 1 }

-- ---- a place is no farther than the bytes before it

pub record IsNear (p q : Place) (n : ℕ) : Type 0 where
  pub line : q.line ≤ p.line + n
  pub column : q.column ≤ p.column + n

one_near : (p : Place) (b : ℕ) → IsNear p (after_byte p b) 1
one_near p b = by (b == 10) (continues_character b)
  where
    by : (x y : Bool) → IsNear p (if x then record { line = suc p.line; column = 1 } else (if y then p else record { line = p.line; column = suc p.column })) 1
    by true y = record { line = omega arith; column = omega arith }
    by false true = record { line = omega arith; column = omega arith }
    by false false = record { line = omega arith; column = omega arith }

all_near : (p : Place) (bs : List ℕ) → IsNear p (fold after_byte p bs) (length bs)
all_near p [] = record { line = omega arith; column = omega arith }
all_near p (b ∷ bs) =
    let one = one_near p b in
    let rest = all_near (after_byte p b) bs in
    record { line = omega (arith, one.line, rest.line); column = omega (arith, one.column, rest.column) }

pub place_near : (bytes : List ℕ) (n : ℕ) → IsNear start (place_of bytes n) n
unfolding place_of
place_near bytes n =
    let near = all_near start (take n bytes) in
    let few : length (take n bytes) ≤ n = simp length-take (omega arith) in
    record { line = omega (arith, near.line, few); column = omega (arith, near.column, few) }

-- ---- from one place to the next

pub from_known : (bytes : List ℕ) (k n : ℕ) (p : Place) → k ≤ n → p ≡ place_of bytes k → fold after_byte p (slice_range bytes k n) ≡ place_of bytes n
unfolding place_of
from_known bytes k n p le is =
    let sum : k + (n - k) ≡ n = omega arith in
    ap (λ q. fold after_byte q (slice_range bytes k n)) is ∙ sym (fold-append after_byte start (take k bytes) (slice_range bytes k n))
    ∙ ap (fold after_byte start) (sym (take-add k (n - k) bytes) ∙ ap (λ m. take m bytes) sum)

pub place_first : (bytes : List ℕ) → start ≡ place_of bytes 0
unfolding place_of
place_first bytes = refl
