-- The numbers that digits write.
use Rattle.std.proofs.Common.{◌≡◌, refl, sym, ap, ℕ, ◌<◌, ◌^◌, Bool, true, false, ◌&&◌, ◌||◌, ◌==◌, List, [], ◌∷◌, length, Err, arith, rules, inl, inr}
use Rattle.std.specs.Prelude.{nat_lt, slice_index, if◌then◌else◌}
use Rattle.std.specs.Char.{is_ascii_digit}
use Rattle.std.specs.List.{list_all}
use Rattle.std.specs.Str.Parse.{ParsesUnsigned, digits_value}
use Rattle.std.proofs.lemmas.Bool.{cases_lt, lt-ltb, and_parts, and_from, or_left}
use Rattle.std.proofs.lemmas.Str.Parse.{IsNumeralModel, numerals_by_value, parse_digits}
use Rattle.hp_model.specs.Parts.{is_name_byte}
use Rattle.hp_model.specs.NotationTokens.{number, found, faulty, number_lexeme}

own : IsNumeralModel (λ bs. list_all is_ascii_digit bs ≡ true) (digits_value 10)
own = numerals_by_value _ (search rules)

or_true : (a b : Bool) → b ≡ true → (a || b) ≡ true
or_true true b e = refl
or_true false b e = e

-- more than 64 bits are no number
pub too_large : {E : Type 0} (bs : List ℕ) (e : E) (more : ℕ) → ParsesUnsigned 64 10 bs (Err e) → list_all is_ascii_digit bs ≡ true → 0 < length bs
    → faulty 0 ≡ number_lexeme bs more
too_large bs e more h all some =
    let v = digits_value 10 bs in
    let no : ((0 < length bs) × (v < 2 ^ 64)) → ⊥ = parse_digits own 64 bs (Err e) h all in
    let large : 2 ^ 63 < v = elim (cases_lt v (2 ^ 64)) [ inl below ↦ absurd (no (some, below)) | inr above ↦ omega arith ] in
    let b = (slice_index bs 0 == 48) && nat_lt 0 more in
    sym (ap (λ t. if t then faulty 0 else found (number v) more) (or_true b (nat_lt (2 ^ 63) v) (lt-ltb (2 ^ 63) v large)))

digit_is_name : (b : ℕ) → is_ascii_digit b ≡ true → is_name_byte b ≡ true
digit_is_name b is = or_left _ _ (or_left _ _ (or_left _ _ is))

pub digits_are_names : (bs : List ℕ) → list_all is_ascii_digit bs ≡ true → list_all is_name_byte bs ≡ true
digits_are_names [] all = refl
digits_are_names (b ∷ bs) all = let parts = and_parts _ _ all in and_from _ _ (digit_is_name b parts.0) (digits_are_names bs parts.1)
