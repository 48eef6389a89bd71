-- Of a script's bytes one more than the longest script has are enough to read what it is.
use Rattle.std.proofs.Common.{◌≡◌, ℕ, ◌<◌, ◌≤◌, List, length, take, cond, Err, None, inl, inr, sym, ap, ◌∙◌, arith, Bool, true, false}
use Rattle.std.proofs.lemmas.Bool.{cases_lt, lt-ltb}
use Rattle.std.proofs.lemmas.List.{take_all, length-take-le}
use Rattle.hp_model.specs.Values.{◌>>=◌}
use Rattle.hp_model.specs.Refusals.{over_limit, size_limit}
use Rattle.hp_model.specs.Decode.{json_at, decode, script_of}
use Rattle.hp_model.specs.NotationPlaces.{read_text}
use Rattle.hp_model.specs.TextScripts.{script_checked, text_checked, script_of_text}
use Rattle.hp_model.specs.Output.{refusal_text, placed_refusal_text}
use Rattle.hp_notation.specs.Readings.{told, script_in}

too_long : (bytes : List ℕ) → 1048576 < length bytes → script_of bytes ≡ Err (over_limit size_limit)
unfolding script_of
too_long bytes h = ap (λ b. cond b (Err (over_limit size_limit)) (json_at bytes >>= decode)) (lt-ltb _ _ h)

too_long_text : (bytes : List ℕ) → 1048576 < length bytes → script_of_text bytes ≡ Err (record { refusal = over_limit size_limit; place = None })
unfolding text_checked
too_long_text bytes h =
    ap (λ b. cond b (Err (record { refusal = over_limit size_limit; place = None })) (script_checked decode bytes (read_text bytes))) (lt-ltb _ _ h)

-- what has one value for all long inputs has the same value for an input and for the part of it that is read
cut : {A : Type 0} (f : List ℕ → A) (most : ℕ) (r : A) (input : List ℕ) → ((bytes : List ℕ) → most ≤ length bytes → f bytes ≡ r) → f (take most input) ≡ f input
cut f most r input long =
    elim (cases_lt (length input) most) [
      | inl lt ↦ ap f (take_all most input (omega arith))
      | inr le ↦ long (take most input) (omega (arith, length-take-le most input le)) ∙ sym (long input le)
    ]

pub script_of_take : (input : List ℕ) → script_of (take 1048577 input) ≡ script_of input
script_of_take input = cut script_of 1048577 (Err (over_limit size_limit)) input (λ bytes h. too_long bytes (omega arith))

pub script_of_text_take : (input : List ℕ) → script_of_text (take 1048577 input) ≡ script_of_text input
script_of_text_take input =
    cut script_of_text 1048577 (Err (record { refusal = over_limit size_limit; place = None })) input (λ bytes h. too_long_text bytes (omega arith))

pub script_in_take : (is_text : Bool) (input : List ℕ) → script_in is_text (take 1048577 input) ≡ script_in is_text input
script_in_take false input = ap (told refusal_text) (script_of_take input)
script_in_take true input = ap (told placed_refusal_text) (script_of_text_take input)
