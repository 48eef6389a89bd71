-- The parts of the grammar's forms: names, numbers, and lists whose items are read in order.
use Rattle.std.specs.Prelude.{ℕ, suc, ℤ, pos, negsuc, nat_lt, ◌==◌, Bool, false, ◌&&◌, ◌||◌, List, [], ◌∷◌, ◌++◌, length, Option, Some, None, is_some, option_and_then, Ok, Err}
use Rattle.std.specs.Prelude.{bytes_eq, if◌then◌else◌}
use Rattle.std.specs.List.{list_all, position_from}
use Rattle.std.specs.Char.{is_ascii_alphabetic, is_ascii_alphanumeric}
use Rattle.serde_json.specs.Data.{Data}
use Rattle.serde_json.specs.Find.{as_str, as_number, as_i64}
use Rattle.hp_model.specs.Values.{Name, ◌>>=◌}
use Rattle.hp_model.specs.Refusals.{Path, item_at, Limit, bad_name, over_limit, Decoded, shaped, whole, known}
use Rattle.hp_model.specs.Json.{list_of}

-- ---- names

abbrev pub is_name_byte : ℕ → Bool
is_name_byte c = is_ascii_alphanumeric c || c == 95

-- 1 to 32 bytes: a letter, followed by letters, digits and `_`
abbrev pub is_name : List ℕ → Bool
is_name [] = false
is_name (first ∷ others) = is_ascii_alphabetic first && (nat_lt (length others) 32 && list_all is_name_byte others)

abbrev pub name_in : List ℕ → Option Name
name_in text = if is_name text then Some text else None

-- a text that is a name
abbrev pub name_of : Data → Option Name
name_of d = option_and_then name_in (as_str d)

abbrev pub name_at : Path → Data → Decoded Name
name_at path d = shaped path (name_of d)

-- the index of a name among these
abbrev pub place_of : List Name → Name → Option ℕ
place_of names x = position_from (λ n. bytes_eq n x) 0 names

abbrev pub contains_name : List Name → Name → Bool
contains_name names x = is_some (place_of names x)

-- a name that is none of these
unfoldable pub new_name_at : List Name → Path → Data → Decoded Name
new_name_at names path d = do
  x ← name_at path d
  if contains_name names x then Err (bad_name path) else Ok x

-- the index of a name that is one of these
unfoldable pub place_at : List Name → Path → Data → Decoded ℕ
place_at names path d = do
  x ← name_at path d
  known path (place_of names x)

-- ---- numbers

-- a signed 64-bit integer
unfoldable pub integer_at : Path → Data → Decoded ℤ
integer_at path d = do
  n ← shaped path (as_number d)
  whole path (as_i64 n)

abbrev pub index_in : ℤ → Option ℕ
index_in (pos n) = if nat_lt 65535 n then None else Some n
index_in (negsuc n) = None

-- the index of a part, 0 to 65,535
unfoldable pub index_at : Path → Data → Decoded ℕ
index_at path d = do
  z ← integer_at path d
  shaped path (index_in z)

abbrev pub not_below : (least : ℕ) → ℤ → Option ℕ
not_below least (pos n) = if nat_lt n least then None else Some n
not_below least (negsuc n) = None

-- an integer of at least this number, which is 0 or more
unfoldable pub number_from : (least : ℕ) → Path → Data → Decoded ℕ
number_from least path d = do
  z ← integer_at path d
  shaped path (not_below least z)

-- ---- lists

abbrev pub list_at : Path → Data → Decoded (List Data)
list_at path d = shaped path (list_of d)

abbrev pub at_most : ℕ → Limit → List Data → Decoded (List Data)
at_most most limit ds = if nat_lt most (length ds) then Err (over_limit limit) else Ok ds

-- a list of no more items than its limit
unfoldable pub short_list_at : ℕ → Limit → Path → Data → Decoded (List Data)
short_list_at most limit path d = do
  ds ← list_at path d
  at_most most limit ds

-- items from an index, each read with the items before it, which come first in the result
abbrev pub read_from : {A D : Type 0} → (List A → Path → D → Decoded A) → Path → List A → ℕ → List D → Decoded (List A)
read_from read path before i [] = Ok before
read_from read path before i (d ∷ ds) = do
  x ← read before (item_at path i) d
  read_from read path (before ++ x ∷ []) (suc i) ds

-- the items of a list, from left to right; reading an item may depend on those before it
abbrev pub read_each : {A D : Type 0} → (List A → Path → D → Decoded A) → Path → List D → Decoded (List A)
read_each read path ds = read_from read path [] 0 ds
