-- What an aggregate reads of a class: the rows for which its predicate isn't false.
use Rattle.std.proofs.Common.{◌≡◌, refl, ap, sym, ◌∙◌, Bool, true, false, cond, List, [], ◌∷◌, Option, Some}
use Rattle.std.specs.Prelude.{Ok, Err, filter, if◌then◌else◌}
use Rattle.hp_model.specs.Values.{Name, Value, KeyedRow, Outcome, ◌>>=◌}
use Rattle.hp_model.specs.Expressions.{Expression, Environment, bound, as_boolean, value_of}
use Rattle.hp_model.specs.Conditions.{Merge, merged}
use Rattle.hp_model.specs.Firing.{boolean_value}
use Rattle.hp_model.specs.ClassParts.{ClassPart, belongs, picked}

bind_assoc : {A B C : Type 0} (o : Outcome A) (f : A → Outcome B) (g : B → Outcome C) → (o >>= λ a. f a >>= g) ≡ (o >>= f) >>= g
bind_assoc (Ok a) f g = refl
bind_assoc (Err c) f g = refl

-- ---- the rows that matter

module _ (merge : Merge) (env : Environment) (x : Name) (predicate term : Expression) where
  -- the value of the predicate at a row
  abbrev pub test : KeyedRow → Outcome Bool
  test r = boolean_value (bound x r env) predicate

  abbrev rest_after : Option Value → KeyedRow → List KeyedRow → Bool → Outcome (Option Value)
  rest_after so_far r rs keep =
      (if keep then (value_of (bound x r env) term >>= λ w. merge so_far w >>= λ m. Ok (Some m)) else Ok so_far) >>= λ next. merged merge env x predicate term next rs

  by_test : (keep : KeyedRow → Bool) (others : List KeyedRow) (r : KeyedRow) (rs : List KeyedRow)
      → ((so_far : Option Value) → merged merge env x predicate term so_far rs ≡ merged merge env x predicate term so_far others)
      → (so_far : Option Value) (b : Bool) → (b ≡ false → test r ≡ Ok false) → merged merge env x predicate term so_far (r ∷ rs) ≡ merged merge env x predicate term so_far (cond b (r ∷ others) others)
  by_test keep others r rs same so_far true is = λ i.
      value_of (bound x r env) predicate >>= λ v. as_boolean v >>= λ k.
      (if k then (value_of (bound x r env) term >>= λ w. merge so_far w >>= λ m. Ok (Some m)) else Ok so_far) >>= λ next. same next i
  by_test keep others r rs same so_far false is =
      bind_assoc (value_of (bound x r env) predicate) as_boolean (rest_after so_far r rs) ∙ ap (λ (o : Outcome Bool). o >>= rest_after so_far r rs) (is refl) ∙ same so_far

  -- rows where the predicate is false, without a fault, may be left out
  pub merged_kept : (keep : KeyedRow → Bool) → ((r : KeyedRow) → keep r ≡ false → test r ≡ Ok false) → (so_far : Option Value) (rows : List KeyedRow)
      → merged merge env x predicate term so_far rows ≡ merged merge env x predicate term so_far (filter keep rows)
  merged_kept keep others so_far [] = refl
  merged_kept keep others so_far (r ∷ rs) = by_test keep (filter keep rs) r rs (λ next. merged_kept keep others next rs) so_far (keep r) (others r)

-- ---- a part of the class

-- whether an object belongs to the part, or may do
abbrev is_in : Outcome Bool → Bool
is_in (Ok b) = b
is_in (Err c) = true

outside : (o : Outcome Bool) → is_in o ≡ false → o ≡ Ok false
outside (Ok b) e = ap Ok e
outside (Err c) e = cc

one_picked : (o : Outcome Bool) (rest : Outcome (List KeyedRow)) (r : KeyedRow) (others hits : List KeyedRow)
    → ((more : List KeyedRow) → rest ≡ Ok more → more ≡ others) → (o >>= λ keep. rest >>= λ more. Ok (if keep then r ∷ more else more)) ≡ Ok hits → hits ≡ cond (is_in o) (r ∷ others) others
one_picked (Ok true) (Ok more) r others hits h e = let same : r ∷ more ≡ hits = cc in sym same ∙ ap (λ rs. r ∷ rs) (h more refl)
one_picked (Ok false) (Ok more) r others hits h e = let same : more ≡ hits = cc in sym same ∙ h more refl
one_picked (Ok true) (Err c) r others hits h e = cc
one_picked (Ok false) (Err c) r others hits h e = cc
one_picked (Err c) rest r others hits h e = cc

picked_kept : (p : ClassPart) (rows hits : List KeyedRow) → picked p rows ≡ Ok hits → hits ≡ filter (λ r. is_in (belongs p r)) rows
picked_kept p [] hits e = let same : [] ≡ hits = cc in sym same
picked_kept p (r ∷ rs) hits e = one_picked (belongs p r) (picked p rs) r (filter (λ s. is_in (belongs p s)) rs) hits (λ more is. picked_kept p rs more is) e

-- where the predicate is false outside a part, the part's rows are enough
pub merged_by_part : (merge : Merge) (env : Environment) (x : Name) (predicate term : Expression) (p : ClassPart)
    → ((r : KeyedRow) → belongs p r ≡ Ok false → boolean_value (bound x r env) predicate ≡ Ok false)
    → (so_far : Option Value) (rows hits : List KeyedRow) → picked p rows ≡ Ok hits → merged merge env x predicate term so_far rows ≡ merged merge env x predicate term so_far hits
merged_by_part merge env x predicate term p elsewhere so_far rows hits is =
    merged_kept merge env x predicate term (λ r. is_in (belongs p r)) (λ r e. elsewhere r (outside (belongs p r) e)) so_far rows
    ∙ ap (merged merge env x predicate term so_far) (sym (picked_kept p rows hits is))
