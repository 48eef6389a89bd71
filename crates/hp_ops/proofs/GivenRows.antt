-- Lemmas on the rows that statements make, one value more at a time.
use Rattle.std.proofs.Common.{arith, ◌≡◌, refl, sym, ap, ◌∙◌, ℕ, zero, suc, ◌+◌, ◌<◌, List, [], ◌∷◌, ◌++◌, append_assoc, length, map, take, Ok, Err, Some, None}
use Rattle.std.specs.Prelude.{bytes_eq, unwrap_or, string_bytes, slice_get, option_map}
use Rattle.std.specs.Map.{lookup}
use Rattle.hp_model.specs.Values.{Name, Value, Kind, Cause, Row, Outcome, wrong_kind, ◌>>=◌, or_cause, kind_of, is_kind}
use Rattle.hp_model.specs.Values as V
use Rattle.hp_model.specs.Expressions.{Environment, value_of}
use Rattle.hp_model.specs.Rules.{Assignment}
use Rattle.hp_model.specs.Firing.{assigned, of_kind, made_row, changed_row}
use Rattle.hp_value.specs.declared.value.Value.{Value as RustValue}
use Rattle.hp_value.specs.declared.row.Field.{Field}
use Rattle.hp_value.specs.Mapped.{value, row_of}
use Rattle.hp_value.specs.Rows.{renewed}
use Rattle.hp_ops.specs.Given.{value_given}

-- a result's list after some elements
abbrev pub onto : {X : Type 0} → List X → Outcome (List X) → Outcome (List X)
onto pre (Ok xs) = Ok (pre ++ xs)
onto pre (Err c) = Err c

onto_push : {X : Type 0} (pre : List X) (x : X) (o : Outcome (List X)) → onto pre (o >>= λ xs. Ok (x ∷ xs)) ≡ onto (pre ++ x ∷ []) o
onto_push pre x (Ok xs) = ap Ok (sym (append_assoc pre (x ∷ []) xs))
onto_push pre x (Err c) = refl

bind_assoc : {X Y Z : Type 0} (o : Outcome X) (f : X → Outcome Y) (g : Y → Outcome Z) → (o >>= λ x. f x >>= g) ≡ (o >>= f >>= g)
bind_assoc (Ok x) f g = refl
bind_assoc (Err c) f g = refl

-- ---- given values

-- one more value is assigned
pub assigned_more : (env : Environment) (a : Assignment) (others : List Assignment) (pre : List (Name × Value)) (v : Value) → Ok v ≡ value_of env a.value
    → onto pre (assigned env (a ∷ others)) ≡ onto (pre ++ (a.field, v) ∷ []) (assigned env others)
assigned_more env a others pre v is =
    ap (λ o. onto pre (o >>= λ w. assigned env others >>= λ rest. Ok ((a.field, w) ∷ rest))) (sym is) ∙ onto_push pre (a.field, v) (assigned env others)

-- ---- new rows

made_is : (f : V.Field) (fs : List V.Field) (given : Row) → made_row (f ∷ fs) given ≡ (value_given f given >>= λ w. made_row fs given >>= λ rest. Ok ((f.name, w) ∷ rest))
made_is f fs given = bind_assoc (or_cause (lookup (bytes_eq f.name) given) wrong_kind) (of_kind f.kind) (λ w. made_row fs given >>= λ rest. Ok ((f.name, w) ∷ rest))

pub made_more : (f : V.Field) (fs : List V.Field) (given pre : Row) (v : Value) → Ok v ≡ value_given f given → onto pre (made_row (f ∷ fs) given) ≡ onto (pre ++ (f.name, v) ∷ []) (made_row fs given)
made_more f fs given pre v is =
    ap (onto pre) (made_is f fs given) ∙ ap (λ o. onto pre (o >>= λ w. made_row fs given >>= λ rest. Ok ((f.name, w) ∷ rest))) (sym is)
    ∙ onto_push pre (f.name, v) (made_row fs given)

-- a row with one field more
pub row_of_push : (fs : List Field) (vs : List RustValue) (f : Field) (v : RustValue) → length vs ≡ length fs
    → row_of (fs ++ f ∷ []) (vs ++ v ∷ []) ≡ row_of fs vs ++ (string_bytes f.name, value v) ∷ []
row_of_push [] [] f v same = refl
row_of_push [] (w ∷ vs) f v same = cc
row_of_push (g ∷ fs) [] f v same = cc
row_of_push (g ∷ fs) (w ∷ vs) f v same =
    let shorter : length vs ≡ length fs = omega arith in
    ap (λ r. (string_bytes g.name, value w) ∷ r) (row_of_push fs vs f v shorter)

-- ---- changed rows

-- the values of a row with the given ones among them
abbrev pub changed_values : (given old : Row) → List Value
changed_values given old = map (λ (v : Name × Value). unwrap_or (lookup (bytes_eq v.0) given) v.1) old

pub renewed_is : (given old : Row) → renewed old (changed_values given old) ≡ changed_row given old
renewed_is given [] = refl
renewed_is given (v ∷ vs) = ap (λ r. (v.0, unwrap_or (lookup (bytes_eq v.0) given) v.1) ∷ r) (renewed_is given vs)

changed_next : (given old : Row) (i : ℕ) (n : Name) (v : Value) → Some (n, v) ≡ slice_get old i
    → changed_values given (take (suc i) old) ≡ changed_values given (take i old) ++ unwrap_or (lookup (bytes_eq n) given) v ∷ []
changed_next given [] i n v is = cc
changed_next given (w ∷ ws) zero n v is = ap (λ o. unwrap_or (option_map (λ (x : Name × Value). unwrap_or (lookup (bytes_eq x.0) given) x.1) o) v ∷ []) (sym is)
changed_next given (w ∷ ws) (suc i) n v is = ap (λ vs. unwrap_or (lookup (bytes_eq w.0) given) w.1 ∷ vs) (changed_next given ws i n v is)

pub changed_more : (given old : Row) (i : ℕ) (n : Name) (v : Value) → Some (n, v) ≡ slice_get old i
    → changed_values given (take (i + 1) old) ≡ changed_values given (take i old) ++ unwrap_or (lookup (bytes_eq n) given) v ∷ []
changed_more given old i n v is = let e : i + 1 ≡ suc i = omega arith in ap (λ k. changed_values given (take k old)) e ∙ changed_next given old i n v is

pub within : {X : Type 0} (xs : List X) (i : ℕ) → None ≡ slice_get xs i → i < length xs → ⊥
within [] i none low = omega arith
within (x ∷ xs) zero none low = cc
within (x ∷ xs) (suc i) none low = within xs i none (omega arith)
