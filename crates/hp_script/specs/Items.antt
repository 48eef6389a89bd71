-- Items over a library, in a version of the grammar.
use Rattle.serde_json.specs.Data.{Data}
use Rattle.hp_model.specs.Rules.{Library}
use Rattle.hp_model.specs.Refusals.{Path, Decoded}
use Rattle.hp_model.specs.Decode.{Version, Schedule, unit_at, units_at}
use Rattle.hp_script.specs.Scopes.{library_scope}

-- the schedule before, with the item at a path added
abbrev pub item_over : Version → Library → Path → Schedule → Data → Decoded Schedule
item_over version library path before d = unit_at version library.rules (library_scope library) path before d

-- the items at a path
abbrev pub items_over : Version → Library → Path → Data → Decoded Schedule
items_over version library path d = units_at version library.rules (library_scope library) path d
