-- What a snapshot is to a contract.
use Rattle.std.specs.Prelude.{refl, List, [], Option, Some, None}
use Rattle.std.specs.Coded.{Coded, code_by, coded×, coded_list, codes}
use Rattle.std.specs.declared.sync.Arc.{Arc}
use Rattle.std.specs.declared.alloc.Global.{Global}
use Rattle.hp_model.specs.Cells.{Cells, over}
use Rattle.hp_detect.specs.Codes.{event_code, knowledge_code}
use Rattle.hp_store.specs.declared.layer.Layer.{Layer}
use Rattle.hp_store.specs.Changes.{Entries, changes_in}
use Rattle.hp_store.specs.Codes.{entries_code}
use Rattle.hp_store.specs.Tables.{Tables, cells_at}

-- the entries of a shared layer; where none is shared there are no changes
abbrev pub shared_entries : Option (Arc Layer Global) → Entries
shared_entries None = []
shared_entries (Some layer) = layer.value

-- a base and the layers over it, the newest last
pub record Stack : Type 0 where
  pub base : Tables
  pub layers : List Entries

-- the cells that it shows
abbrev pub cells_in : Stack → Cells
cells_in s = over (cells_at s.base) (changes_in s.layers)

-- how a stack is stored
pub tables_code : Coded Tables
tables_code = hlevel (codes, event_code, knowledge_code)

abbrev pub stack_code : Coded Stack
stack_code = code_by (Tables × List Entries) (coded× tables_code (coded_list entries_code)) (λ s. (s.base, s.layers)) (λ p. record { base = p.0; layers = p.1 }) (λ _. refl)
