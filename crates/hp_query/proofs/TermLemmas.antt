-- Terms, merged one after another.
use Rattle.std.proofs.Common.{◌≡◌, refl, sym, ap, ◌∙◌, Bool, List, [], ◌∷◌, Option, Some, Ok, Err, if◌then◌else◌, option_map}
use Rattle.hp_model.specs.Values.{Name, Value, KeyedRow, Outcome, ◌>>=◌}
use Rattle.hp_model.specs.Expressions.{Expression, Environment, bound, as_boolean, value_of}
use Rattle.hp_model.specs.Conditions.{Merge, merged}
use Rattle.hp_value.specs.declared.halt.Halt.{Halt}
use Rattle.hp_value.specs.declared.halt.Halt.TheVariants.{Memory, Cause as ByCause}
use Rattle.hp_value.specs.declared.value.Value.{Value as RustValue}
use Rattle.hp_value.specs.Mapped.{Meets, value}

-- one step and then the others, in either grouping
after_one : (test : Outcome Bool) (next : Bool → Outcome (Option Value)) (others : Option Value → Outcome (Option Value))
    → (test >>= λ keep. next keep >>= others) ≡ (test >>= λ keep. next keep >>= λ n. Ok n) >>= others
after_one (Ok keep) next others = by (next keep)
  where
    by : (o : Outcome (Option Value)) → (o >>= others) ≡ (o >>= λ n. Ok n) >>= others
    by (Ok n) = refl
    by (Err c) = refl
after_one (Err c) next others = refl

tested : (v : Outcome Value) (next : Bool → Outcome (Option Value)) (others : Option Value → Outcome (Option Value))
    → (v >>= λ w. as_boolean w >>= λ keep. next keep >>= others) ≡ (v >>= λ w. as_boolean w >>= λ keep. next keep >>= λ n. Ok n) >>= others
tested (Ok v) next others = after_one (as_boolean v) next others
tested (Err c) next others = refl

module _ (merge : Merge) (env : Environment) (x : Name) (predicate term : Expression) where
  -- the first row, and then the others
  merged-cons : (so_far : Option Value) (r : KeyedRow) (rest : List KeyedRow)
      → merged merge env x predicate term so_far (r ∷ rest) ≡ (merged merge env x predicate term so_far (r ∷ []) >>= λ next. merged merge env x predicate term next rest)
  merged-cons so_far r rest =
      tested (value_of (bound x r env) predicate) (λ keep. if keep then (value_of (bound x r env) term >>= λ w. merge so_far w >>= λ m. Ok (Some m)) else Ok so_far)
      (λ next. merged merge env x predicate term next rest)

  pub merged_first : (so_far next : Option Value) (r : KeyedRow) (rest : List KeyedRow) → Ok next ≡ merged merge env x predicate term so_far (r ∷ [])
      → merged merge env x predicate term next rest ≡ merged merge env x predicate term so_far (r ∷ rest)
  merged_first so_far next r rest is =
      ap (λ (o : Outcome (Option Value)). o >>= λ n. merged merge env x predicate term n rest) is ∙ sym (merged-cons so_far r rest)

  pub merged_halt : (so_far : Option Value) (r : KeyedRow) (rest : List KeyedRow) (halt : Halt)
      → Meets {A = Option RustValue} {B = Option Value} (option_map value) (Err halt) (merged merge env x predicate term so_far (r ∷ []))
      → Meets {A = Option RustValue} {B = Option Value} (option_map value) (Err halt) (merged merge env x predicate term so_far (r ∷ rest))
  merged_halt so_far r rest (ByCause c) faults =
      ap (λ (o : Outcome (Option Value)). o >>= λ n. merged merge env x predicate term n rest) faults ∙ sym (merged-cons so_far r rest)
  merged_halt so_far r rest Memory faults = tt
