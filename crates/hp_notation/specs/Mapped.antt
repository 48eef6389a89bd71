-- What refusals of texts stand for in the model, and what a reader of texts gives.
use Rattle.std.specs.Prelude.{◌≡◌, ⊤, Option, Some, None, option_map, Result, Ok, Err}
use Rattle.hp_model.specs.Refusals.{Path, Refusal, wrong_shape, bad_number, bad_name}
use Rattle.hp_model.specs.TextScripts.{PlacedRefusal}
use Rattle.hp_script.specs.Mapped.{refusal}
use Rattle.hp_text.specs.Places.{place_view}
use Rattle.hp_notation.specs.declared.refusal.TextRefusal.{TextRefusal}
use Rattle.hp_notation.specs.declared.refusal.TextError.{TextError}
use Rattle.hp_notation.specs.declared.refusal.TextError.TheVariants.{Refused, Memory}

abbrev pub placed_refusal : TextRefusal → PlacedRefusal
placed_refusal r = record { refusal = refusal r.refusal; place = option_map place_view r.place }

abbrev pub path_in : Refusal → Option Path
path_in (wrong_shape path) = Some path
path_in (bad_number path) = Some path
path_in (bad_name path) = Some path
path_in r = None

abbrev pub Fails : {B : Type 0} → TextError → Result B PlacedRefusal → Type 0
Fails (Refused r) read = read ≡ Err (placed_refusal r)
Fails Memory read = ⊤

-- the result, with its value seen by f, is what the definition reads, unless memory ran out
abbrev pub Gives : {A B : Type 0} → (A → B) → Result A TextError → Result B PlacedRefusal → Type 0
Gives f (Ok x) read = read ≡ Ok (f x)
Gives f (Err e) read = Fails e read
