-- The places of refusals.
use Rattle.std.proofs.Common.{◌≡◌, ◌∙◌, refl, sym, ap, ℕ, List, Option, Some, None, Result, Ok, Err}
use Rattle.std.specs.Prelude.{unwrap_or, option_map}
use Rattle.hp_model.specs.Refusals.{Path, Refusal, unreadable, wrong_shape, bad_number, bad_name, over_limit, unknown_version, Decoded}
use Rattle.hp_model.specs.NotationTree as T
use Rattle.hp_model.specs.NotationPlaces.{Place, read_text, read_text_line, place_of, place_at, offset_along}
use Rattle.hp_model.specs.TextScripts.{refusal_place, script_place, line_place, placed}
use Rattle.hp_notation.specs.Mapped.{path_in}

same_read : {A E : Type 0} (r : Result A E) (x y : A) → r ≡ Ok x → r ≡ Ok y → x ≡ y
same_read r x y first again = let same : Ok x ≡ Ok y = sym first ∙ again in cc

-- ---- the place of a path

pub script_found : (text : List ℕ) (s t : T.Script) (path : Path) (p : Place) → read_text text ≡ Ok s → Some p ≡ place_at text s path → read_text text ≡ Ok t → p ≡ script_place text t path
script_found text s t path p read found again =
    ap (λ o. unwrap_or o (place_of text s.at)) found ∙ ap (λ (u : T.Script). script_place text u path) (same_read (read_text text) s t read again)

pub script_lost : (text : List ℕ) (s t : T.Script) (path : Path) (p : Place) → read_text text ≡ Ok s → None ≡ place_at text s path → p ≡ place_of text s.at
    → read_text text ≡ Ok t → p ≡ script_place text t path
script_lost text s t path p read lost is again =
    is ∙ ap (λ o. unwrap_or o (place_of text s.at)) lost ∙ ap (λ (u : T.Script). script_place text u path) (same_read (read_text text) s t read again)

pub line_found : (text : List ℕ) (n m : T.Node) (path : Path) (p : Place) → read_text_line text ≡ Ok n → Some p ≡ option_map (place_of text) (offset_along path n)
    → read_text_line text ≡ Ok m → p ≡ line_place text m path
line_found text n m path p read found again =
    ap (λ o. unwrap_or o (place_of text (T.offset n))) found ∙ ap (λ (u : T.Node). line_place text u path) (same_read (read_text_line text) n m read again)

pub line_lost : (text : List ℕ) (n m : T.Node) (path : Path) (p : Place) → read_text_line text ≡ Ok n → None ≡ option_map (place_of text) (offset_along path n) → p ≡ place_of text (T.offset n)
    → read_text_line text ≡ Ok m → p ≡ line_place text m path
line_lost text n m path p read lost is again =
    is ∙ ap (λ o. unwrap_or o (place_of text (T.offset n))) lost ∙ ap (λ (u : T.Node). line_place text u path) (same_read (read_text_line text) n m read again)

-- ---- the place of a refusal

pub refusal_place_in : (place : Path → Place) (r : Refusal) → refusal_place place r ≡ option_map place (path_in r)
refusal_place_in place unreadable = refl
refusal_place_in place (wrong_shape path) = refl
refusal_place_in place (bad_number path) = refl
refusal_place_in place (bad_name path) = refl
refusal_place_in place (over_limit limit) = refl
refusal_place_in place unknown_version = refl

pub placed_of : {A : Type 0} (place : Path → Place) (r : Decoded A) (x : A) → r ≡ Ok x → placed place r ≡ Ok x
placed_of place r x read = ap (placed place) read

pub placed_refused : {A : Type 0} (place : Path → Place) (r : Decoded A) (e : Refusal) (spot : Option Place) → r ≡ Err e → spot ≡ refusal_place place e
    → placed place r ≡ Err (record { refusal = e; place = spot })
placed_refused place r e spot read is = ap (placed place) read ∙ ap (λ o. Err (record { refusal = e; place = o })) (sym is)
