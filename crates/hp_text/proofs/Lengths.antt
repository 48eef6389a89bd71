-- A reserved word is one of its own length.
use Rattle.std.proofs.Common.{◌≡◌, refl, sym, ap, ◌∙◌, ℕ, zero, suc, ◌<◌, ◌≤◌, Bool, true, false, cond, nat_eq, nat_lt, ◌&&◌}
use Rattle.std.proofs.Common.{List, [], ◌∷◌, map, length, Some, None, arith}
use Rattle.std.specs.List.{list_all}
use Rattle.std.specs.Str.{bytes_eq}
use Rattle.std.proofs.lemmas.Bool.Decides.{nat_tests}
use Rattle.std.proofs.lemmas.Slice.Eq.{bytes_eq-Decides}
use Rattle.hp_model.specs.Json.{beside}
use Rattle.hp_model.specs.NotationTokens.{Mark, reserved, reserved_word, with_spelling}
use Rattle.hp_text.specs.Words.{among, of_2, of_3, of_4, of_5, of_6, of_7, of_8, of_9}

-- the entries whose words have this length
abbrev of_length : {A : Type 0} → ℕ → List (List ℕ × A) → List (List ℕ × A)
of_length n [] = []
of_length n (e ∷ es) = cond (nat_eq (length e.0) n) (e ∷ of_length n es) (of_length n es)

no_other : (w v : List ℕ) (b : Bool) → bytes_eq w v ≡ b → nat_eq (length v) (length w) ≡ false → b ≡ false
no_other w v false e is = refl
no_other w v true e is =
    let long : length v ≡ length w = sym (ap length ((bytes_eq-Decides w v).0 e)) in
    grind (arith, nat_tests)

other : (w v : List ℕ) → nat_eq (length v) (length w) ≡ false → bytes_eq w v ≡ false
other w v is = no_other w v (bytes_eq w v) refl is

step : {A : Type 0} (w : List ℕ) (e : List ℕ × A) (es : List (List ℕ × A)) (b : Bool) → nat_eq (length e.0) (length w) ≡ b
    → beside w (of_length (length w) es) ≡ beside w es
    → beside w (cond b (e ∷ of_length (length w) es) (of_length (length w) es)) ≡ beside w (e ∷ es)
step w e es true is ih = ap (λ r. cond (bytes_eq w e.0) (Some e.1) r) ih
step w e es false is ih = ih ∙ sym (ap (λ b. cond b (Some e.1) (beside w es)) (other w e.0 is))

-- entries of other lengths aren't beside a word
beside_of_length : {A : Type 0} (w : List ℕ) (es : List (List ℕ × A)) → beside w (of_length (length w) es) ≡ beside w es
beside_of_length w [] = refl
beside_of_length w (e ∷ es) = step w e es (nat_eq (length e.0) (length w)) refl (beside_of_length w es)

-- the reserved words of a length
abbrev table : ℕ → List (List ℕ × Mark)
table n = of_length n (map with_spelling reserved)

in_table : (w : List ℕ) (n : ℕ) → length w ≡ n → reserved_word w ≡ beside w (table n)
unfolding reserved_word
in_table w n e = sym (beside_of_length w (map with_spelling reserved)) ∙ ap (λ n. beside w (table n)) e

pub two : (w : List ℕ) → length w ≡ 2 → among of_2 w ≡ reserved_word w
two w e = sym (in_table w 2 e)

pub three : (w : List ℕ) → length w ≡ 3 → among of_3 w ≡ reserved_word w
three w e = sym (in_table w 3 e)

pub four : (w : List ℕ) → length w ≡ 4 → among of_4 w ≡ reserved_word w
four w e = sym (in_table w 4 e)

pub five : (w : List ℕ) → length w ≡ 5 → among of_5 w ≡ reserved_word w
five w e = sym (in_table w 5 e)

pub six : (w : List ℕ) → length w ≡ 6 → among of_6 w ≡ reserved_word w
six w e = sym (in_table w 6 e)

pub seven : (w : List ℕ) → length w ≡ 7 → among of_7 w ≡ reserved_word w
seven w e = sym (in_table w 7 e)

pub eight : (w : List ℕ) → length w ≡ 8 → among of_8 w ≡ reserved_word w
eight w e = sym (in_table w 8 e)

pub nine : (w : List ℕ) → length w ≡ 9 → among of_9 w ≡ reserved_word w
nine w e = sym (in_table w 9 e)

-- reserved words have at most nine letters
abbrev is_short : {A : Type 0} → List ℕ × A → Bool
is_short e = nat_lt (length e.0) 10

first_short : {A : Type 0} (n : ℕ) (e : List ℕ × A) (es : List (List ℕ × A)) (b : Bool) → is_short e ≡ b → (b && list_all is_short es) ≡ true → 9 < n
    → (list_all is_short es ≡ true → of_length n es ≡ []) → of_length n (e ∷ es) ≡ []
first_short n e es false is all long rest = cc
first_short n e es true is all long rest =
    let differs : nat_eq (length e.0) n ≡ false = grind (arith, nat_tests) in
    ap (λ b. cond b (e ∷ of_length n es) (of_length n es)) differs ∙ rest all

all_short : {A : Type 0} (n : ℕ) (es : List (List ℕ × A)) → list_all is_short es ≡ true → 9 < n → of_length n es ≡ []
all_short n [] all long = refl
all_short n (e ∷ es) all long = first_short n e es (is_short e) refl all long (λ rest. all_short n es rest long)

-- no reserved word has another length
others : (n : ℕ) → (2 ≤ n → n ≤ 9 → ⊥) → table n ≡ []
others zero h = refl
others (suc zero) h = refl
others (suc (suc zero)) h = absurd (h (omega arith) (omega arith))
others (suc (suc (suc zero))) h = absurd (h (omega arith) (omega arith))
others (suc (suc (suc (suc zero)))) h = absurd (h (omega arith) (omega arith))
others (suc (suc (suc (suc (suc zero))))) h = absurd (h (omega arith) (omega arith))
others (suc (suc (suc (suc (suc (suc zero)))))) h = absurd (h (omega arith) (omega arith))
others (suc (suc (suc (suc (suc (suc (suc zero))))))) h = absurd (h (omega arith) (omega arith))
others (suc (suc (suc (suc (suc (suc (suc (suc zero)))))))) h = absurd (h (omega arith) (omega arith))
others (suc (suc (suc (suc (suc (suc (suc (suc (suc zero))))))))) h = absurd (h (omega arith) (omega arith))
others (suc (suc (suc (suc (suc (suc (suc (suc (suc (suc n)))))))))) h = all_short (suc (suc (suc (suc (suc (suc (suc (suc (suc (suc n)))))))))) (map with_spelling reserved) refl (omega arith)

-- no reserved word is shorter or longer
pub none : (w : List ℕ) → (2 ≤ length w → length w ≤ 9 → ⊥) → None ≡ reserved_word w
none w h = sym (in_table w (length w) refl ∙ ap (beside w) (others (length w) h))
