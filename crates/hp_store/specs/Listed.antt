-- Whether a list has the keys of the objects that are there.
use Rattle.std.specs.Prelude.{ℕ, ℤ, Bool, true, not, ◌&&◌, ◌||◌, List, Option, is_some}
use Rattle.std.specs.Ordering.{int_eq}
use Rattle.std.specs.List.{list_all, list_any}
use Rattle.hp_model.specs.Cells.{Cell, object_cell, rule_cell, detector_cell, CellValue, Cells, over}
use Rattle.hp_store.specs.Changes.{Entries, changes, class_entries}
use Rattle.hp_store.specs.Stack.{Stack, cells_in}
use Rattle.hp_store.specs.Tables.{entries_at}

-- an object's key is listed, if the object is there
abbrev pub is_listed : Cells → List ℤ → Cell → Bool
is_listed cells keys (object_cell class key) = list_any (int_eq key) keys || not (is_some (cells (object_cell class key)))
is_listed cells keys (rule_cell n) = true
is_listed cells keys (detector_cell n) = true

abbrev pub are_listed : Cells → List ℤ → Entries → Bool
are_listed cells keys es = list_all (λ (e : Cell × Option CellValue). is_listed cells keys e.0) es

-- those of a class that the base, a layer or the writes have
abbrev pub all_listed : Stack → Entries → List ℤ → ℕ → Bool
all_listed s writes keys class =
    list_all (λ e. is_listed (over (cells_in s) (changes writes)) keys (object_cell class e.0)) (entries_at s.base.classes class)
    && (list_all (λ layer. are_listed (over (cells_in s) (changes writes)) keys (class_entries class layer)) s.layers
    && are_listed (over (cells_in s) (changes writes)) keys (class_entries class writes))
