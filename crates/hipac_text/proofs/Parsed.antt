-- What `serde_json` says of a read is the value that the definition reads.
use Rattle.std.proofs.Common.{◌≡◌, ℕ, Bool, true, false, cond, List, Option, Some, None, refl, ap, ◌∙◌}
use Rattle.std.specs.Prelude.{IsUtf8}
use Rattle.std.specs.Str.{is_utf8}
use Rattle.std.proofs.lemmas.Str.{is_utf8-from_IsUtf8, IsUtf8-from_is_utf8}
use Rattle.serde_json.specs.Data.{Data}
use Rattle.serde_json.specs.Read.{read}
use Rattle.hp_model.specs.Json.{json_of}

pub is_json : (bytes : List ℕ) (d : Data) → IsUtf8 bytes × (read bytes ≡ Some d) → json_of bytes ≡ Some d
is_json bytes d h = ap (λ b. cond b (read bytes) None) (is_utf8-from_IsUtf8 bytes h.0) ∙ h.1

not_read : (b : Bool) (o : Option Data) → (b ≡ true → o ≡ None) → cond b o None ≡ None
not_read true o h = h refl
not_read false o h = refl

pub is_no_json : (bytes : List ℕ) → (IsUtf8 bytes → read bytes ≡ None) → json_of bytes ≡ None
is_no_json bytes h = not_read (is_utf8 bytes) (read bytes) (λ e. h (IsUtf8-from_is_utf8 bytes e))
