-- Which rows are the candidates for a predicate, and that they are enough for answers and for aggregates.
use Rattle.std.proofs.Common.{◌≡◌, refl, sym, ap, subst, ◌∙◌, ℕ, ℤ, Bool, true, false, cond, List, [], ◌∷◌, length, filter, Ok, Err, if◌then◌else◌, int_eq, Option, Some}
use Rattle.std.specs.List.{AllByRecursion}
use Rattle.std.proofs.lemmas.List.{length-map}
use Rattle.hp_model.specs.Values.{Name, Value, boolean, Row, KeyedRow, Outcome, ◌>>=◌}
use Rattle.hp_model.specs.Expressions.{Expression, constant, Environment, bound, as_boolean, value_of}
use Rattle.hp_model.specs.Firing.{boolean_value}
use Rattle.hp_model.specs.Conditions.{selected, Merge, merged}
use Rattle.hp_model.specs.ClassParts.{ClassPart, belongs, picked}
use Rattle.hp_model.specs.State.{Objects, find_object, rows_of, class_keys}
use Rattle.hp_model.proofs.BridgesAggregates.{merged_kept}
use Rattle.hp_query.specs.ByKey.{IsFalseElsewhere}
use Rattle.hp_query.specs.Candidates.{AreCandidates, IsTrueOfEach, tested, counted}
use Rattle.hp_query.specs.Looks.{ObjectsRise}
use Rattle.hp_query.specs.Parts.{IsFalseOutside, IsTrueInside}
use Rattle.hp_query.proofs.ByKeyLemmas.{of_hits}
use Rattle.hp_query.proofs.RowLemmas.{with_key, one_row}
use Rattle.hp_query.proofs.SelectLemmas.{selected-cons}

all_kept : (rows : List KeyedRow) → rows ≡ filter (λ (r : KeyedRow). true) rows
all_kept [] = refl
all_kept (r ∷ rs) = ap (λ qs. r ∷ qs) (all_kept rs)

-- whether an object belongs to the part, or may do
abbrev is_in : Outcome Bool → Bool
is_in (Ok b) = b
is_in (Err c) = true

not_in : (o : Outcome Bool) → is_in o ≡ false → o ≡ Ok false
not_in (Ok b) e = ap Ok e
not_in (Err c) e = cc

one_picked : (o : Outcome Bool) (rest : Outcome (List KeyedRow)) (r : KeyedRow) (others hits : List KeyedRow)
    → ((more : List KeyedRow) → rest ≡ Ok more → more ≡ others) → (o >>= λ keep. rest >>= λ more. Ok (if keep then r ∷ more else more)) ≡ Ok hits → hits ≡ cond (is_in o) (r ∷ others) others
one_picked (Ok true) (Ok more) r others hits h e = let same : r ∷ more ≡ hits = cc in sym same ∙ ap (λ rs. r ∷ rs) (h more refl)
one_picked (Ok false) (Ok more) r others hits h e = let same : more ≡ hits = cc in sym same ∙ h more refl
one_picked (Ok true) (Err c) r others hits h e = cc
one_picked (Ok false) (Err c) r others hits h e = cc
one_picked (Err c) rest r others hits h e = cc

picked_kept : (p : ClassPart) (rows hits : List KeyedRow) → picked p rows ≡ Ok hits → hits ≡ filter (λ r. is_in (belongs p r)) rows
picked_kept p [] hits e = let same : [] ≡ hits = cc in sym same
picked_kept p (r ∷ rs) hits e = one_picked (belongs p r) (picked p rs) r (filter (λ s. is_in (belongs p s)) rs) hits (λ more is. picked_kept p rs more is) e

-- ---- a predicate that is true of each row of the part

abbrev AllBelong : ClassPart → List KeyedRow → Type 0
AllBelong p rows = AllByRecursion (λ r. belongs p r ≡ Ok true) rows

one_belongs : (p : ClassPart) (r : KeyedRow) (o : Outcome Bool) (rest : Outcome (List KeyedRow)) (hits : List KeyedRow) → belongs p r ≡ o → ((more : List KeyedRow) → rest ≡ Ok more → AllBelong p more)
    → (o >>= λ keep. rest >>= λ more. Ok (if keep then r ∷ more else more)) ≡ Ok hits → AllBelong p hits
one_belongs p r (Ok true) (Ok more) hits is h e = let same : r ∷ more ≡ hits = cc in subst (AllBelong p) same (is, h more refl)
one_belongs p r (Ok false) (Ok more) hits is h e = let same : more ≡ hits = cc in subst (AllBelong p) same (h more refl)
one_belongs p r (Ok true) (Err c) hits is h e = cc
one_belongs p r (Ok false) (Err c) hits is h e = cc
one_belongs p r (Err c) rest hits is h e = cc

all_belong : (p : ClassPart) (rows hits : List KeyedRow) → picked p rows ≡ Ok hits → AllBelong p hits
all_belong p [] hits e = let same : [] ≡ hits = cc in subst (AllBelong p) same tt
all_belong p (r ∷ rs) hits e = one_belongs p r (belongs p r) (picked p rs) hits refl (λ more is. all_belong p rs more is) e

bind_assoc : {A B C : Type 0} (o : Outcome A) (f : A → Outcome B) (g : B → Outcome C) → (o >>= λ a. f a >>= g) ≡ (o >>= f) >>= g
bind_assoc (Ok a) f g = refl
bind_assoc (Err c) f g = refl

-- ---- a predicate that is always true

all_selected : (env : Environment) (x : Name) (rows : List KeyedRow) → selected env x (constant (boolean true)) rows ≡ Ok rows
all_selected env x [] = refl
all_selected env x (r ∷ rs) = ap (λ (o : Outcome (List KeyedRow)). o >>= λ rest. Ok (r ∷ rest)) (all_selected env x rs)

pub all_counted : (env : Environment) (x : Name) (class : ℕ) (world : Objects) → counted (selected env x (constant (boolean true)) (rows_of class world)) ≡ Ok (length (class_keys class world))
all_counted env x class world =
    ap counted (all_selected env x (rows_of class world)) ∙ ap Ok (sym (length-map (rows_of class world) (λ (r : KeyedRow). r.key)))

module _ (env : Environment) (x : Name) (predicate : Expression) where
  -- ---- which rows are candidates

  pub all_rows : (rows : List KeyedRow) → AreCandidates env x predicate rows rows
  all_rows rows = record { is_kept = λ r. true; kept = all_kept rows; elsewhere = λ r e. cc }

  pub row_of_key : (key : ℤ) (class : ℕ) (world : Objects) (found : Option Row) → IsFalseElsewhere env x predicate key → ObjectsRise world → found ≡ find_object world class key
      → AreCandidates env x predicate (with_key key found) (rows_of class world)
  row_of_key key class world found false_elsewhere rise is = record {
    is_kept = λ r. int_eq r.key key;
    kept = ap (with_key key) is ∙ sym (one_row class key world rise);
    elsewhere = false_elsewhere.elsewhere;
  }

  pub rows_of_part : (p : ClassPart) (rows hits : List KeyedRow) → IsFalseOutside env x predicate p → picked p rows ≡ Ok hits → AreCandidates env x predicate hits rows
  rows_of_part p rows hits false_outside is = record {
    is_kept = λ r. is_in (belongs p r);
    kept = picked_kept p rows hits is;
    elsewhere = λ r e. false_outside.outside r (not_in (belongs p r) e);
  }

  -- ---- candidates are enough

  pub selected_of : {rows all : List KeyedRow} → AreCandidates env x predicate rows all → selected env x predicate rows ≡ selected env x predicate all
  selected_of {rows} {all} are = ap (selected env x predicate) are.kept ∙ sym (of_hits env x predicate are.is_kept are.elsewhere all)

  pub merged_of : (merge : Merge) (term : Expression) (so_far : Option Value) {rows all : List KeyedRow} → AreCandidates env x predicate rows all
      → merged merge env x predicate term so_far rows ≡ merged merge env x predicate term so_far all
  merged_of merge term so_far {rows} {all} are =
      ap (merged merge env x predicate term so_far) are.kept ∙ sym (merged_kept merge env x predicate term are.is_kept are.elsewhere so_far all)

  -- ---- where the predicate is known to be true

  abbrev AllTrue : List KeyedRow → Type 0
  AllTrue rows = AllByRecursion (λ r. boolean_value (bound x r env) predicate ≡ Ok true) rows

  all_true : (p : ClassPart) (rows : List KeyedRow) → IsTrueInside env x predicate p → AllBelong p rows → AllTrue rows
  all_true p [] inside belong = tt
  all_true p (r ∷ rs) inside belong = (inside.inside r belong.0, all_true p rs inside belong.1)

  pub true_in_part : (p : ClassPart) (rows hits : List KeyedRow) → IsTrueInside env x predicate p → picked p rows ≡ Ok hits → IsTrueOfEach env x predicate hits
  true_in_part p rows hits inside is = record { each = all_true p hits inside (all_belong p rows hits is) }

  each_selected : (rows : List KeyedRow) → AllTrue rows → selected env x predicate rows ≡ Ok rows
  each_selected [] are = refl
  each_selected (r ∷ rs) are = selected-cons env x predicate r rs (Ok true) are.0 ∙ ap (λ (o : Outcome (List KeyedRow)). o >>= λ rest. Ok (r ∷ rest)) (each_selected rs are.1)

  -- all rows are the answer
  pub all_selected_of : {rows all : List KeyedRow} → AreCandidates env x predicate rows all → IsTrueOfEach env x predicate rows → Ok rows ≡ selected env x predicate all
  all_selected_of {rows} {all} are true_of = sym (each_selected rows true_of.each) ∙ selected_of are

  each_merged : (merge : Merge) (term : Expression) (so_far : Option Value) (rows : List KeyedRow) → AllTrue rows
      → merged merge env x (constant (boolean true)) term so_far rows ≡ merged merge env x predicate term so_far rows
  each_merged merge term so_far [] are = refl
  each_merged merge term so_far (r ∷ rs) are =
      by (λ n. each_merged merge term n rs are.1) (value_of (bound x r env) term >>= λ w. merge so_far w >>= λ m. Ok (Some m))
      ∙ ap (λ (o : Outcome Bool). o >>= next) (sym are.0) ∙ sym (bind_assoc (value_of (bound x r env) predicate) as_boolean next)
    where
      next : Bool → Outcome (Option Value)
      next keep = (if keep then (value_of (bound x r env) term >>= λ w. merge so_far w >>= λ m. Ok (Some m)) else Ok so_far) >>= λ n. merged merge env x predicate term n rs

      by : ((n : Option Value) → merged merge env x (constant (boolean true)) term n rs ≡ merged merge env x predicate term n rs) → (o : Outcome (Option Value))
          → (o >>= λ n. merged merge env x (constant (boolean true)) term n rs) ≡ (o >>= λ n. merged merge env x predicate term n rs)
      by same (Ok n) = same n
      by same (Err c) = refl

  -- what isn't tested changes nothing
  pub tested_merged : (merge : Merge) (term : Expression) (so_far : Option Value) (rows : List KeyedRow) (is_known : Bool) → (is_known ≡ true → IsTrueOfEach env x predicate rows)
      → merged merge env x (tested is_known predicate) term so_far rows ≡ merged merge env x predicate term so_far rows
  tested_merged merge term so_far rows true are = each_merged merge term so_far rows (are refl).each
  tested_merged merge term so_far rows false are = refl
