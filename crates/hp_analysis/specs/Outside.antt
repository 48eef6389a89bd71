-- Signals that come from outside a script, by what is declared of them.
use Rattle.std.specs.Prelude.{List, [], ◌∷◌}
use Rattle.hp_model.specs.Values.{Name}
use Rattle.hp_model.specs.Rules.{signal, Body, empty, ◌then◌}
use Rattle.hp_model.specs.Cascade.{Unit, transaction}
use Rattle.hp_model.specs.Kinds.{Sort, Declared}

-- signals each of these once
abbrev pub signals_in : List (Name × List Sort) → Body
signals_in [] = empty
signals_in (s ∷ ss) = signal s.0 [] then signals_in ss

-- nothing, or a transaction that signals each of these. What a signal may trigger doesn't depend on its arguments
abbrev pub raised_by : List (Name × List Sort) → List Unit
raised_by [] = []
raised_by (s ∷ ss) = transaction 0 (signals_in (s ∷ ss)) ∷ []

abbrev pub raised : Declared → List Unit
raised d = raised_by d.signatures
