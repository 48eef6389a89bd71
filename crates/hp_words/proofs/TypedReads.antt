-- The value that a typed getter of `clap` reads from a text.
use Rattle.std.proofs.Common.{◌≡◌, ◌≢◌, ℕ, Bool, true, false, List, Option, Some, None, Result, Ok, Err, unwrap_or, codes, refl, sym, ap}
use Rattle.std.proofs.lemmas.Slice.Eq.{bytes_eq-Decides}
use Rattle.std.specs.Str.{bytes_eq}
use Rattle.std.specs.Str.Parse.{ParsesUnsigned, ParsesBool}
use Rattle.clap.specs.Words.{ReadsOne}
use Rattle.clap.proofs.WalkLemmas.{byte_read}
use Rattle.hp_words.specs.Words.{number_in, flag_in}

pub number_read : (E : Type 0) (G : List ℕ → Result ℕ E → Type 0) → ((u : List ℕ) (x : Result ℕ E) → G u x → ParsesUnsigned 8 10 u x)
    → (o : Option (List ℕ)) (r : Option ℕ) → (o ≡ None → r ≡ None) → ((t : List ℕ) → o ≡ Some t → ReadsOne G t r) → unwrap_or r 0 ≡ number_in o
number_read E G only None r none value = ap (λ x. unwrap_or x 0) (none refl)
number_read E G only (Some t) (Some v) none value = byte_read {E = E} t (Ok v) (only t (Ok v) (value t refl))
number_read E G only (Some t) None none value =
    let e = value t refl in
    byte_read t (Err e.0) (only t (Err e.0) e.1)

differs : (b : Bool) (t u : List ℕ) → bytes_eq t u ≡ b → t ≢ u → false ≡ b
differs true t u e apart = absurd (apart ((bytes_eq-Decides t u).0 e))
differs false t u e apart = refl

pub flag_read : (E : Type 0) (o : Option (List ℕ)) (r : Option Bool) → (o ≡ None → r ≡ None) → ((t : List ℕ) → o ≡ Some t → ReadsOne (ParsesBool {E = E}) t r)
    → unwrap_or r false ≡ flag_in o
flag_read E None r none value = ap (λ x. unwrap_or x false) (none refl)
flag_read E (Some t) (Some true) none value = sym ((bytes_eq-Decides t (codes "true")).1 (value t refl))
flag_read E (Some t) (Some false) none value = ap (λ u. bytes_eq u (codes "true")) (sym (value t refl))
flag_read E (Some t) None none value = differs _ t (codes "true") refl (value t refl).1.0
