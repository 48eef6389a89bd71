-- What `serde_json` says of a read is what the definition says.
use Rattle.std.proofs.Common.{◌≡◌, ℕ, Bool, true, false, cond, List, Option, Some, None, Ok, Err, refl, ap, ◌∙◌}
use Rattle.std.specs.Prelude.{IsUtf8}
use Rattle.std.specs.Str.{is_utf8}
use Rattle.std.proofs.lemmas.Str.{is_utf8-from_IsUtf8, IsUtf8-from_is_utf8}
use Rattle.serde_json.specs.Data.{Data}
use Rattle.serde_json.specs.Read.{read}
use Rattle.hp_model.specs.Refusals.{unreadable}
use Rattle.hp_model.specs.Decode.{readable, json_at}

pub json_at_ok : (bytes : List ℕ) (d : Data) → IsUtf8 bytes × (read bytes ≡ Some d) → json_at bytes ≡ Ok d
unfolding json_at
json_at_ok bytes d h = ap (λ b. readable (cond b (read bytes) None)) (is_utf8-from_IsUtf8 bytes h.0) ∙ ap readable h.1

not_read : (b : Bool) (o : Option Data) → (b ≡ true → o ≡ None) → cond b o None ≡ None
not_read true o h = h refl
not_read false o h = refl

pub json_at_err : (bytes : List ℕ) → (IsUtf8 bytes → read bytes ≡ None) → json_at bytes ≡ Err unreadable
unfolding json_at
json_at_err bytes h = ap readable (not_read (is_utf8 bytes) (read bytes) (λ e. h (IsUtf8-from_is_utf8 bytes e)))
