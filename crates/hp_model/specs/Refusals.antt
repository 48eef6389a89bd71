-- Why a script is refused, and where.
use Rattle.std.specs.Prelude.{ℕ, List, [], ◌∷◌, ◌++◌, Option, Some, None, Result, Ok, Err}
use Rattle.hp_model.specs.Values.{Name}

-- a step into a value: to a member of an object by its name, or to an item of a list by its index, from 0
pub data Step : Type 0 where
  to_member : Name → Step
  to_item : (position : ℕ) → Step

-- the position of a value: the steps to it from the root
abbrev pub Path : Type 0
Path = List Step

-- the limits
pub data Limit : Type 0 where
  size_limit classes_limit fields_limit rules_limit expression_limit event_limit nesting_limit text_limit depth_limit_word arguments_limit moments_limit : Limit

pub data Refusal : Type 0 where
  -- not a JSON text
  unreadable : Refusal
  -- a form that the grammar doesn't have; a number that isn't a signed 64-bit integer; a name that is unknown or
  -- duplicated
  wrong_shape bad_number bad_name : Path → Refusal
  -- a limit is exceeded
  over_limit : Limit → Refusal
  unknown_version : Refusal

-- what a part of a script means, or why it is refused
abbrev pub Decoded : Type 0 → Type 0
Decoded A = Result A Refusal

-- the path of a member of the root
abbrev pub under_root : Name → Path
under_root name = to_member name ∷ []

-- the path of an item of the list at a path
abbrev pub item_at : Path → ℕ → Path
item_at path i = path ++ to_item i ∷ []

-- what was found at a path, if it has the form of the grammar
abbrev pub shaped : {A : Type 0} → Path → Option A → Decoded A
shaped path None = Err (wrong_shape path)
shaped path (Some x) = Ok x

-- the number at a path, if it is a signed 64-bit integer
abbrev pub whole : {A : Type 0} → Path → Option A → Decoded A
whole path None = Err (bad_number path)
whole path (Some x) = Ok x

-- what the name at a path means, if it is known
abbrev pub known : {A : Type 0} → Path → Option A → Decoded A
known path None = Err (bad_name path)
known path (Some x) = Ok x
