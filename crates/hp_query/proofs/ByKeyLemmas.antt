-- Predicates that begin by asking for one key, and their answers.
use Rattle.std.proofs.Common.{◌≡◌, refl, sym, ap, ap₂, ◌∙◌, ℕ, pos, Bool, true, false, cond, List, [], ◌∷◌, filter, Some, Ok, Err, if◌then◌else◌}
use Rattle.std.specs.Prelude.{bytes_eq, neg_ℤ, not}
use Rattle.std.specs.Map.{lookup}
use Rattle.std.proofs.lemmas.Cmp.{int_eq_equiv}
use lib.Pointwise.{bytes_decides}
use Rattle.hp_model.specs.Values.{Name, Value, integer, boolean, text, KeyedRow, wrong_kind, Cause, Outcome, ◌>>=◌, or_cause}
use Rattle.hp_model.specs.Expressions.{Expression, constant, arithmetic, negated, inverted, both, either, compared, equal, field_of, key_of, new_field, old_field, key_in, argument, time_of}
use Rattle.hp_model.specs.Expressions.{occurrence_count, value_named, time_now, Environment, bound, as_integer, as_boolean, in_range, calculate, compare}
use Rattle.hp_model.specs.Expressions.{part_of, row_named, field_in, new_row, old_row, operation_key, argument_of, moment_of, count_in, value_at, value_of}
use Rattle.hp_model.specs.Firing.{boolean_value}
use Rattle.hp_model.specs.Conditions.{selected}
use Rattle.hp_query.specs.ByKey.{AsksFor}
use Rattle.hp_query.proofs.SelectLemmas.{selected-cons, bind_ok}

-- ---- what stays when one more row is bound

-- if the first is no fault, the second is the same
pub record Stays {A : Type 0} (o p : Outcome A) : Type 0 where
  pub so : (x : A) → o ≡ Ok x → p ≡ Ok x

stays : {A : Type 0} (o : Outcome A) → Stays o o
stays o = record { so = λ x e. e }

stays_then : {A B : Type 0} {o p : Outcome A} {f g : A → Outcome B} → Stays o p → ((x : A) → Stays (f x) (g x)) → Stays (o >>= f) (p >>= g)
stays_then {o = Ok x} {p} {f} {g} first next = record { so = λ y e. ap (λ q. q >>= g) (first.so x refl) ∙ (next x).so y e }
stays_then {o = Err c} {p} {f} {g} first next = record { so = λ y e. cc }

chosen : (t b : Bool) (o p : Outcome Value) → Stays o p → Stays (if t then o else Ok (boolean b)) (if t then p else Ok (boolean b))
chosen true b o p h = h
chosen false b o p h = stays (Ok (boolean b))

otherwise : (t b : Bool) (o p : Outcome Value) → Stays o p → Stays (if t then Ok (boolean b) else o) (if t then Ok (boolean b) else p)
otherwise true b o p h = stays (Ok (boolean b))
otherwise false b o p h = h

-- under a name that has no meaning yet
module _ (env : Environment) (x : Name) (r : KeyedRow) (c : Cause) (free : row_named env x ≡ Err c) where
  named_stays : (y : Name) → Stays (row_named env y) (row_named (bound x r env) y)
  named_stays y = by (bytes_eq y x) refl
    where
      by : (b : Bool) → bytes_eq y x ≡ b → Stays (row_named env y) (or_cause (cond b (Some r) (lookup (bytes_eq y) env.rows)) wrong_kind)
      by true same =
          let is : y ≡ x = (bytes_decides y x).0 same in
          let none : row_named env y ≡ Err c = ap (row_named env) is ∙ free in
          record { so = λ q e. let never : Ok q ≡ Err c = sym e ∙ none in cc }
      by false other = stays (row_named env y)

  part_stays : (i : ℕ) → Stays (part_of env i) (part_of (bound x r env) i)
  part_stays i = stays (part_of env i)

  -- an expression that has a value keeps it
  pub value_stays : (e : Expression) → Stays (value_of env e) (value_of (bound x r env) e)
  value_stays (constant v) = stays (Ok v)
  value_stays (arithmetic op a b) =
      stays_then (value_stays a) λ v.
      stays_then (value_stays b) λ w. stays (as_integer v >>= λ y. as_integer w >>= λ z. calculate op y z)
  value_stays (negated a) = stays_then (value_stays a) λ v. stays (as_integer v >>= λ y. in_range (neg_ℤ y))
  value_stays (inverted a) = stays_then (value_stays a) λ v. stays (as_boolean v >>= λ t. Ok (boolean (not t)))
  value_stays (both a b) =
      stays_then (value_stays a) λ v.
      stays_then (stays (as_boolean v)) λ t.
      stays_then (chosen t false (value_of env b) (value_of (bound x r env) b) (value_stays b)) λ w. stays (as_boolean w >>= λ y. Ok (boolean y))
  value_stays (either a b) =
      stays_then (value_stays a) λ v.
      stays_then (stays (as_boolean v)) λ t.
      stays_then (otherwise t true (value_of env b) (value_of (bound x r env) b) (value_stays b)) λ w. stays (as_boolean w >>= λ y. Ok (boolean y))
  value_stays (compared op a b) =
      stays_then (value_stays a) λ v.
      stays_then (value_stays b) λ w. stays (compare op v w >>= λ t. Ok (boolean t))
  value_stays (field_of y f) = stays_then (named_stays y) λ q. stays (field_in q.row f)
  value_stays (key_of y) = stays_then (named_stays y) λ q. stays (Ok (integer q.key))
  value_stays (new_field i f) = stays_then (part_stays i) λ p. stays (new_row p >>= λ row. field_in row f)
  value_stays (old_field i f) = stays_then (part_stays i) λ p. stays (old_row p >>= λ row. field_in row f)
  value_stays (key_in i) = stays_then (part_stays i) λ p. stays (operation_key p)
  value_stays (argument i j) = stays_then (part_stays i) λ p. stays (argument_of p j)
  value_stays (time_of i) = stays_then (part_stays i) λ p. stays (moment_of p)
  value_stays occurrence_count = stays (count_in env.occurrence)
  value_stays (value_named y) = stays (value_at env y)
  value_stays time_now = stays (in_range (pos env.now))

-- ---- which predicates ask for a key

-- the name means the row that was bound
pub own_row : (env : Environment) (x : Name) (r : KeyedRow) → row_named (bound x r env) x ≡ Ok r
own_row env x r = ap (λ b. or_cause (cond b (Some r) (lookup (bytes_eq x) env.rows)) wrong_kind) ((bytes_decides x x).1 refl)

pub own_key : (env : Environment) (x : Name) (r : KeyedRow) → value_of (bound x r env) (key_of x) ≡ Ok (integer r.key)
own_key env x r =
    ap (λ (o : Outcome KeyedRow). o >>= λ q. Ok (integer q.key)) (own_row env x r)

-- whether two values are equal, as an equation says
abbrev equated : Outcome Value → Outcome Value → Outcome Bool
equated o p = (o >>= λ v. p >>= λ w. compare equal v w >>= λ t. Ok (boolean t)) >>= λ v. as_boolean v

pub asks_first : (x : Name) (b : Expression) → AsksFor x (compared equal (key_of x) b) b
asks_first x b = record {
  asks = λ env c key free is. record {
    elsewhere = λ r other. ap₂ equated (own_key env x r) ((value_stays env x r c free b).so (integer key) is) ∙ ap Ok other;
  };
}

pub asks_second : (x : Name) (a : Expression) → AsksFor x (compared equal a (key_of x)) a
asks_second x a = record {
  asks = λ env c key free is. record {
    elsewhere = λ r other.
        ap₂ equated ((value_stays env x r c free a).so (integer key) is) (own_key env x r) ∙ ap Ok (int_eq_equiv.symm key r.key ∙ other);
  };
}

-- after a false first operand the second isn't evaluated
pub no_more : (o next : Outcome Value) → (o >>= λ v. as_boolean v) ≡ Ok false
    → ((o >>= λ v. as_boolean v >>= λ t. (if t then next else Ok (boolean false)) >>= λ w. as_boolean w >>= λ y. Ok (boolean y)) >>= λ v. as_boolean v) ≡ Ok false
no_more (Ok (integer z)) next h = cc
no_more (Ok (boolean true)) next h = cc
no_more (Ok (boolean false)) next h = refl
no_more (Ok (text s)) next h = cc
no_more (Err c) next h = cc

pub asks_both : (x : Name) (a b wanted : Expression) → AsksFor x a wanted → AsksFor x (both a b) wanted
asks_both x a b wanted first = record {
  asks = λ env c key free is. record {
    elsewhere = λ r other. no_more (value_of (bound x r env) a) (value_of (bound x r env) b) ((first.asks env c key free is).elsewhere r other);
  };
}

-- ---- answers

-- rows for which the predicate is false can be left out
module _ (env : Environment) (x : Name) (predicate : Expression) (hit : KeyedRow → Bool) (false_elsewhere : (r : KeyedRow) → hit r ≡ false → boolean_value (bound x r env) predicate ≡ Ok false) where
  pub of_hits : (rows : List KeyedRow) → selected env x predicate rows ≡ selected env x predicate (filter hit rows)
  of_hits [] = refl
  of_hits (r ∷ rs) = by (hit r) refl (of_hits rs)
    where
      by : (b : Bool) → hit r ≡ b → selected env x predicate rs ≡ selected env x predicate (filter hit rs)
          → selected env x predicate (r ∷ rs) ≡ selected env x predicate (cond b (r ∷ filter hit rs) (filter hit rs))
      by true here same =
          ap (λ (o : Outcome (List KeyedRow)). value_of (bound x r env) predicate >>= λ v. as_boolean v >>= λ keep. o >>= λ rows. Ok (if keep then r ∷ rows else rows)) same
      by false other same =
          selected-cons env x predicate r rs (Ok false) (false_elsewhere r other) ∙ bind_ok (selected env x predicate rs) ∙ same
