-- Lemmas on the rows and the values that a condition's findings give to names.
use Rattle.std.proofs.Common.{◌≡◌, refl, ap, ◌∙◌, ℕ, Bool, true, false, List, [], ◌∷◌, Option, Some, None, bytes_eq, if◌then◌else◌}
use Rattle.std.specs.Map.{lookup}
use Rattle.std.specs.Option.{option_or}
use Rattle.hp_model.specs.Values.{Name, NamedValues, Value, KeyedRow}
use Rattle.hp_model.specs.Expressions.{Environment}
use Rattle.hp_model.specs.Occurrences.{Occurrence}
use Rattle.hp_model.specs.Conditions.{Answers, with_answers, with_values}
use Rattle.hp_value.specs.Mapped.{first_under}

-- an environment without a moment
abbrev pub without_moment : Option Occurrence → List (Name × KeyedRow) → NamedValues → Environment
without_moment o rows values = record { occurrence = o; rows = rows; values = values; now = 0 }

-- ---- answers

-- the row of a name where later answers hide f
abbrev pub found_in : Option KeyedRow → Name → Answers → Option KeyedRow
found_in f x [] = f
found_in f x (a ∷ as') = found_in (option_or (first_under x a) f) x as'

or_none : (b : Bool) (f : Option KeyedRow) → option_or (if b then None else None) f ≡ f
or_none true f = refl
or_none false f = refl

or_first : (b : Bool) (r : KeyedRow) (f : Option KeyedRow) → option_or (if b then Some r else None) f ≡ (if b then Some r else f)
or_first true r f = refl
or_first false r f = refl

pub found_is : (x : Name) (o : Option Occurrence) (rows : List (Name × KeyedRow)) (as' : Answers)
    → found_in (lookup (bytes_eq x) rows) x as' ≡ lookup (bytes_eq x) (with_answers (without_moment o rows []) as').rows
found_is x o rows [] = refl
found_is x o rows ((n, []) ∷ as') = ap (λ f. found_in f x as') (or_none (bytes_eq x n) (lookup (bytes_eq x) rows)) ∙ found_is x o rows as'
found_is x o rows ((n, r ∷ rs) ∷ as') = ap (λ f. found_in f x as') (or_first (bytes_eq x n) r (lookup (bytes_eq x) rows)) ∙ found_is x o ((n, r) ∷ rows) as'

-- answers add names of rows only
pub with_answers_is : (o : Option Occurrence) (rows : List (Name × KeyedRow)) (values : NamedValues) (now : ℕ) (as' : Answers)
    → with_answers (record { occurrence = o; rows = rows; values = values; now = now }) as' ≡ record {
      occurrence = o;
      rows = (with_answers (without_moment None rows []) as').rows;
      values =
          values;
      now = now;
    }
with_answers_is o rows values now [] = refl
with_answers_is o rows values now ((n, []) ∷ as') = with_answers_is o rows values now as'
with_answers_is o rows values now ((n, r ∷ rs) ∷ as') = with_answers_is o ((n, r) ∷ rows) values now as'

-- ---- values

-- the value of a name where later ones hide f
abbrev pub last_in : Option Value → Name → NamedValues → Option Value
last_in f x [] = f
last_in f x (v ∷ vs) = last_in (if bytes_eq x v.0 then Some v.1 else f) x vs

pub last_is : (x : Name) (values vs : NamedValues) → last_in (lookup (bytes_eq x) values) x vs ≡ lookup (bytes_eq x) (with_values (without_moment None [] values) vs).values
last_is x values [] = refl
last_is x values (v ∷ vs) = last_is x (v ∷ values) vs

-- values add names of values only
pub with_values_is : (o : Option Occurrence) (rows : List (Name × KeyedRow)) (values : NamedValues) (now : ℕ) (vs : NamedValues)
    → with_values (record { occurrence = o; rows = rows; values = values; now = now }) vs ≡ record {
      occurrence = o;
      rows = rows;
      values =
          (with_values (without_moment None [] values) vs).values;
      now = now;
    }
with_values_is o rows values now [] = refl
with_values_is o rows values now (v ∷ vs) = with_values_is o rows (v ∷ values) now vs
