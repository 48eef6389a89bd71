-- Words and runs of bytes.
use Rattle.std.proofs.Common.{◌≡◌, refl, sym, ap, ◌∙◌, ◌==◌, ℕ, suc, ◌+◌, ◌-◌, ◌<◌, ◌≤◌, Bool, true, false, cond, List, [], ◌∷◌, length, take, drop, get_or, arith}
use Rattle.std.specs.Prelude.{if◌then◌else◌}
use Rattle.std.specs.Char.{is_ascii_alphabetic, is_ascii_digit}
use Rattle.std.specs.List.{list_all, prefix_len}
use Rattle.std.specs.Str.{IsUtf8}
use Rattle.std.proofs.lemmas.Bool.{and_from, eqb-true}
use Rattle.std.proofs.lemmas.Bool.Decides.{nat_tests}
use Rattle.std.proofs.lemmas.List.{take_all, length-drop}
use Rattle.std.proofs.lemmas.List.Sums.{AllPass-from_list_all}
use Rattle.std.proofs.lemmas.Str.{IsUtf8-from_ascii}
use Rattle.std.proofs.lemmas.Str.Ascii.{IsAscii-from_all}
use Rattle.hp_model.specs.Parts.{is_name_byte}
use Rattle.hp_text.specs.declared.lexeme.Lexeme.{Lexeme}
use Rattle.hp_text.specs.declared.lexeme.Lexeme.TheVariants.{Blank, Found, Faulty}
use Rattle.hp_text.specs.Lexemes.{IsWithin}
use Rattle.hp_model.specs.NotationTokens.{Beginning, letter, digit, space, hash, quote, backquote, other, is_space, beginning}

is_name_byte-below : (b : ℕ) → is_name_byte b ≡ true → b < 128
is_name_byte-below b is = grind (arith, nat_tests)

pub words_are_text : (bs : List ℕ) → list_all is_name_byte bs ≡ true → IsUtf8 bs
words_are_text bs all = IsUtf8-from_ascii bs (IsAscii-from_all bs (λ k d h. is_name_byte-below _ (AllPass-from_list_all is_name_byte bs all k d h)))

-- ---- runs

run_byte : (p : ℕ → Bool) (b : Bool) (x n : ℕ) (xs : List ℕ) → p x ≡ b → list_all p (take n xs) ≡ true → list_all p (take (cond b (1 + n) 0) (x ∷ xs)) ≡ true
run_byte p false x n xs e ih = refl
run_byte p true x n xs e ih = let next : suc n ≡ 1 + n = omega arith in ap (λ k. list_all p (take k (x ∷ xs))) (sym next) ∙ and_from _ _ e ih

run_passes : (p : ℕ → Bool) (xs : List ℕ) → list_all p (take (prefix_len p xs) xs) ≡ true
run_passes p [] = refl
run_passes p (x ∷ xs) = run_byte p (p x) x (prefix_len p xs) xs refl (run_passes p xs)

pub cut_first : (n : ℕ) (bs : List ℕ) → 0 < length bs → take (n + 1) bs ≡ get_or bs 0 0 ∷ take n (drop 1 bs)
cut_first n [] some = absurd (omega arith)
cut_first n (b ∷ bs) some = let next : n + 1 ≡ suc n = omega arith in ap (λ k. take k (b ∷ bs)) next

pub rest_of : (n : ℕ) (bs : List ℕ) → take (length bs - n) (drop n bs) ≡ drop n bs
rest_of n bs = take_all (length bs - n) (drop n bs) (omega (arith, length-drop n bs))

-- a byte that passes, and the run after it
pub word_passes : (p : ℕ → Bool) (bs : List ℕ) → 0 < length bs → p (get_or bs 0 0) ≡ true → list_all p (take (prefix_len p (drop 1 bs) + 1) bs) ≡ true
word_passes p bs some first =
    ap (list_all p) (cut_first (prefix_len p (drop 1 bs)) bs some) ∙ and_from _ _ first (run_passes p (drop 1 bs))

-- ---- what a byte begins

abbrev after_digit : Bool → Bool → Bool → Bool → Beginning
after_digit s h q k = if s then space else (if h then hash else (if q then quote else (if k then backquote else other)))

no_letter : (s h q k : Bool) → after_digit s h q k ≡ letter → ⊥
no_letter true h q k e = cc
no_letter false true q k e = cc
no_letter false false true k e = cc
no_letter false false false true e = cc
no_letter false false false false e = cc

no_digit : (s h q k : Bool) → after_digit s h q k ≡ digit → ⊥
no_digit true h q k e = cc
no_digit false true q k e = cc
no_digit false false true k e = cc
no_digit false false false true e = cc
no_digit false false false false e = cc

is_letter : (l d s h q k : Bool) → (if l then letter else (if d then digit else after_digit s h q k)) ≡ letter → l ≡ true
is_letter true d s h q k e = refl
is_letter false true s h q k e = let no : ⊥ = cc in absurd no
is_letter false false s h q k e = absurd (no_letter s h q k e)

is_digit : (l d s h q k : Bool) → (if l then letter else (if d then digit else after_digit s h q k)) ≡ digit → d ≡ true
is_digit true d s h q k e = let no : ⊥ = cc in absurd no
is_digit false true s h q k e = refl
is_digit false false s h q k e = absurd (no_digit s h q k e)

pub letter_begins : (b : ℕ) → beginning b ≡ letter → is_ascii_alphabetic b ≡ true
letter_begins b e = is_letter _ (is_ascii_digit b) (is_space b) (b == 35) (b == 34) (b == 96) e

pub digit_begins : (b : ℕ) → beginning b ≡ digit → is_ascii_digit b ≡ true
digit_begins b e = is_digit (is_ascii_alphabetic b) _ (is_space b) (b == 35) (b == 34) (b == 96) e

no_quote : (s h k : Bool) → after_digit s h false k ≡ quote → ⊥
no_quote true h k e = cc
no_quote false true k e = cc
no_quote false false true e = cc
no_quote false false false e = cc

is_quote : (l d s h q k : Bool) → (if l then letter else (if d then digit else after_digit s h q k)) ≡ quote → q ≡ true
is_quote l d s h true k e = refl
is_quote true d s h false k e = let no : ⊥ = cc in absurd no
is_quote false true s h false k e = let no : ⊥ = cc in absurd no
is_quote false false s h false k e = absurd (no_quote s h k e)

pub quote_begins : (b : ℕ) → beginning b ≡ quote → b ≡ 34
quote_begins b e = eqb-true b 34 (is_quote (is_ascii_alphabetic b) (is_ascii_digit b) (is_space b) (b == 35) _ (b == 96) e)

pub letter_is_name : (b : ℕ) → is_ascii_alphabetic b ≡ true → is_name_byte b ≡ true
letter_is_name b is = grind (arith, nat_tests)

-- what ends within a number of bytes ends within more
pub within_more : (m n : ℕ) (l : Lexeme) → m ≤ n → IsWithin m l → IsWithin n l
within_more m n (Blank k) le is = omega arith
within_more m n (Found t k) le is = omega arith
within_more m n (Faulty k) le is = omega arith
