-- A growing list, and what seats know of it.
use Rattle.std.specs.Prelude.{◌≡◌, ℕ, List, [], ◌∷◌, ◌++◌, Bool, true, false}
use mathlib.Core.Option as maybe
use mathlib.Core.List.{IsPrefix}
use lib.ListN.{get_elem?}
use Rattle.atomic_table.specs.Table.{Me}
use Rattle.atomic_table.specs.Seated.{TableId}
use Rattle.hp_sessions.specs.declared.entry.Entry.{Entry}
use Rattle.hp_sessions.specs.declared.tokens.View.{View}

-- the name of no table
abbrev pub no_table : TableId
no_table = record { words = 0; slots = 0; views_name = 0; atom = 0; block = 0; offset = 0; slot_names = [] }

abbrev pub view : Bool → List Entry → List Entry → View
view keeps list shown = record { keeps = keeps; list = list; shown = shown }

abbrev pub book_of : List Entry → View
book_of list = view true list []

abbrev pub reader_of : List Entry → View
reader_of list = view false list []

abbrev pub shown : View → View → View
shown v w = view v.keeps v.list w.list

-- what is true of a view where this seat keeps the history, which is log
pub record Fits (seat : ℕ) (log : List Entry) (by : ℕ) (v : View) : Type 0 where
  pub book : v.keeps ≡ true → (by ≡ seat) × (v.list ≡ log)
  pub knows : IsPrefix v.list log
  pub shows : IsPrefix v.shown log

-- at most one view keeps the history, and the lists of all others are prefixes of it
abbrev pub Kept : List View → Type 0
Kept views = (seat : ℕ) × (log : List Entry) × ((by : ℕ) (v : View) → get_elem? views by ≡ maybe.some v → Fits seat log by v)

-- the given entry is the last of the list
abbrev pub AppendedOf : maybe.Option Entry → Me Entry View → Me Entry View → Type 0
AppendedOf maybe.none me now = Unit {0}
AppendedOf (maybe.some e) me now = now ≡ (view me.0.keeps (me.0.list ++ e ∷ []) [], me.1)

abbrev pub Appended : maybe.Option Entry → Me Entry View → Me Entry View → Type 0
Appended = AppendedOf

-- the list that the seat was shown is a prefix of its own
abbrev pub Compared : Me Entry View → Me Entry View → Type 0
Compared me now = (now ≡ (view me.0.keeps me.0.list [], me.1)) × (me.0.keeps ≡ true → IsPrefix me.0.shown me.0.list)
