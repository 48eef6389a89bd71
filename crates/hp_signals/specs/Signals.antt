-- A file of signals: a JSON list of `[name, sorts]`, as a script lists a class and its fields.
use Rattle.std.specs.Prelude.{ℕ, nat_lt, Bool, List, [], ◌∷◌, length, codes, Option, is_some, option_and_then, Ok, Err, bytes_eq, if◌then◌else◌}
use Rattle.std.specs.Map.{lookup}
use Rattle.serde_json.specs.Data.{Data}
use Rattle.serde_json.specs.Find.{as_str}
use Rattle.hp_model.specs.Values.{Name, integer_kind, boolean_kind, text_kind, ◌>>=◌}
use Rattle.hp_model.specs.Kinds.{Sort, only, any}
use Rattle.hp_model.specs.Refusals.{Path, item_at, Decoded, shaped, bad_name, over_limit, size_limit, arguments_limit}
use Rattle.hp_model.specs.Json.{pair_of, beside}
use Rattle.hp_model.specs.Parts.{name_at, list_at, short_list_at, read_each}
use Rattle.hp_model.specs.Decode.{json_at}

-- a signal, and the sorts of its first arguments
abbrev pub Signature : Type 0
Signature = Name × List Sort

-- a kind, or `any` for a value of which no kind is known
abbrev pub sort_of_word : List ℕ → Option Sort
sort_of_word word = beside word ((codes "int", only integer_kind) ∷ (codes "bool", only boolean_kind) ∷ (codes "text", only text_kind) ∷ (codes "any", any) ∷ [])

abbrev pub sort_at : Path → Data → Decoded Sort
sort_at path d = shaped path (option_and_then sort_of_word (as_str d))

-- at most 32 arguments
unfoldable pub sorts_at : Path → Data → Decoded (List Sort)
sorts_at path d = do
  ds ← short_list_at 32 arguments_limit path d
  read_each (λ _. sort_at) path ds

-- a name that isn't taken
unfoldable pub new_name_at : (is_taken : Name → Bool) → Path → Data → Decoded Name
new_name_at is_taken path d = do
  x ← name_at path d
  if is_taken x then Err (bad_name path) else Ok x

-- a signal whose name isn't taken
unfoldable pub signature_at : (is_taken : Name → Bool) → Path → Data → Decoded Signature
signature_at is_taken path d = do
  pair ← shaped path (pair_of d)
  x ← new_name_at is_taken (item_at path 0) pair.0
  sorts ← sorts_at (item_at path 1) pair.1
  Ok (x, sorts)

-- one of these signals has this name
abbrev pub has_signal : List Signature → Name → Bool
has_signal signatures x = is_some (lookup (bytes_eq x) signatures)

-- the signals of a JSON value, each of another name than those before it
abbrev pub signatures_at : Data → Decoded (List Signature)
signatures_at d = do
  ds ← list_at [] d
  read_each (λ before. signature_at (has_signal before)) [] ds

-- the signals of a file with these bytes, or the first refusal; the size is checked first
unfoldable pub signatures_of : List ℕ → Decoded (List Signature)
signatures_of bytes = if nat_lt 1048576 (length bytes) then Err (over_limit size_limit) else json_at bytes >>= signatures_at
