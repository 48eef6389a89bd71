-- What places stand for in the model, and what reading a whole text promises.
use Rattle.std.specs.Prelude.{◌≡◌, ℕ, List, ⊤, Result, Ok, Err}
use Rattle.hp_model.specs.NotationPlaces as P
use Rattle.hp_text.specs.declared.place.Place.{Place}
use Rattle.hp_text.specs.declared.fault.Stop.{Stop}
use Rattle.hp_text.specs.declared.fault.Stop.TheVariants as s
use Rattle.hp_text.specs.declared.error.ReadError.{ReadError}
use Rattle.hp_text.specs.declared.error.ReadError.TheVariants as e

abbrev pub place_view : Place → P.Place
place_view p = record { line = p.line; column = p.column }

-- the result, with its value seen by f, is what the definition gives, or the place of the first fault is, unless memory
-- ran out
abbrev pub IsRead : {A B : Type 0} → (A → B) → Result A ReadError → Result B P.Place → Type 0
IsRead f (Ok x) read = read ≡ Ok (f x)
IsRead f (Err (e.Fault p)) read = read ≡ Err (place_view p)
IsRead f (Err e.Memory) read = ⊤

-- where reading stops, as a place
abbrev pub IsErrorOf : List ℕ → Stop → ReadError → Type 0
IsErrorOf bytes (s.Fault at) (e.Fault p) = place_view p ≡ P.place_of bytes at
IsErrorOf bytes s.Memory e.Memory = ⊤
IsErrorOf bytes stop error = ⊥
