-- The values that a statement gives to fields.
use Rattle.std.specs.Prelude.{ℤ, List, map, bytes_eq}
use Rattle.std.specs.Map.{lookup}
use Rattle.hp_model.specs.Values.{Value, Field, Row, KeyedRow, Outcome, wrong_kind, ◌>>=◌, or_cause}
use Rattle.hp_model.specs.Firing.{of_kind}
use Rattle.hp_value.specs.Mapped.{value}
use Rattle.hp_ops.specs.declared.rows.Given.{Given}

abbrev pub given_in : List Given → Row
given_in gs = map (λ (g : Given). (g.field.now, value g.value)) gs

-- a key with the given values
abbrev pub keyed_in : ℤ → List Given → KeyedRow
keyed_in key given = record { key = key; row = given_in given }

-- the value that is given to a field, of its kind
abbrev pub value_given : Field → Row → Outcome Value
value_given f given = or_cause (lookup (bytes_eq f.name) given) wrong_kind >>= of_kind f.kind
