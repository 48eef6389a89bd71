-- What the columns of an event stand for in the definitions.
use Rattle.std.specs.Prelude.{List, map}
use Rattle.std.specs.Borrow.{Bor}
use Rattle.std.specs.Global.{Vec}
use Rattle.hp_model.specs.Events as M
use Rattle.hp_model.specs.Kinds as K
use Rattle.hp_event.specs.declared.pattern.Pattern.{Pattern}
use Rattle.hp_event.specs.Mapped.{pattern}
use Rattle.hp_analysis.specs.declared.kinds.columns.Columns.{Columns}

abbrev pub patterns : List (Bor Pattern) → List M.Pattern
patterns = map (λ p. pattern p.now)

abbrev pub place_lists : List (Vec (Bor Pattern)) → List (List M.Pattern)
place_lists = map (λ v. patterns v.items)

abbrev pub columns : Columns → K.Columns
columns c = record { places = place_lists c.places.items; exact = c.exact }
