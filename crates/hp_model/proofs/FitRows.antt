-- The rows that statements make and change fit their classes.
use Rattle.std.proofs.Common.{◌≡◌, refl, ap, sym, ◌∙◌, subst, ℕ, zero, suc, ℤ, List, [], ◌∷◌, length, Option, None, Some, Bool, true, false, ◌&&◌, cond, IsTrue, nat_lt}
use Rattle.std.proofs.lemmas.Bool.{and_parts, and_from}
use Rattle.std.specs.Prelude.{bytes_eq, unwrap_or, if◌then◌else◌}
use Rattle.std.specs.List.{AllByRecursion, IsDistinct, slice_index_or}
use Rattle.std.specs.Map.{lookup}
use lib.Pointwise.{bytes_decides}
use Rattle.hp_model.specs.Values.{Name, Value, Kind, Field, ClassDef, Row, KeyedRow, wrong_kind, missing, Outcome, fits_64, value_fits, kind_of, is_kind, row_fits}
use Rattle.hp_model.specs.Expressions.{Expression, Environment}
use Rattle.hp_model.specs.Rules.{Assignment, Library, no_class, class_at}
use Rattle.hp_model.specs.Scopes.{field_names}
use Rattle.hp_model.specs.State.{Objects, object_fits, find_object}
use Rattle.hp_model.specs.Firing.{changed_row, of_kind, made_row, kind_in, checked_kinds, keyed_row, integer_value, named_object}
use Rattle.hp_model.specs.Ranges.{expression_fits, assignments_fit}
use Rattle.hp_model.proofs.FitValues.{Gives, Gives-value, Gives-then, Gives-if, Gives-or, each_found, ValueFits, RowFits, KeyedFits, EnvironmentFits, ObjectsFit, object_keyed}
use Rattle.hp_model.proofs.FitValues.{value_gives, assigned_give, integer_gives}
use Rattle.hp_model.proofs.FitStates.{found_fit}

same_name : (x : Name) → bytes_eq x x ≡ true
same_name x = (bytes_decides x x).1 refl

one_name : (x y : Name) → bytes_eq x y ≡ true → x ≡ y
one_name x y h = (bytes_decides x y).0 h

-- a value of the kind
abbrev OfKind : Kind → Value → Type 0
OfKind kind v = IsTrue (is_kind kind (kind_of v)) × ValueFits v

kind_gives : (kind : Kind) (v : Value) → ValueFits v → Gives (OfKind kind) (of_kind kind v)
kind_gives kind v h = Gives-if (is_kind kind (kind_of v)) v wrong_kind (λ is. (is, h))

-- ---- new rows

pub made_gives : (fields : List Field) (given : Row) → RowFits given → Gives (λ row. IsTrue (row_fits fields row)) (made_row fields given)
made_gives [] given h = Gives-value [] refl
made_gives (f ∷ fs) given h =
    Gives-then (Gives-or (lookup (bytes_eq f.name) given) wrong_kind (λ v is. each_found ValueFits (bytes_eq f.name) given v h is)) λ v hv.
    Gives-then (kind_gives f.kind v hv) λ w hw.
    Gives-then (made_gives fs given h) λ rest hrest.
    Gives-value ((f.name, w) ∷ rest)
    (and_from (bytes_eq f.name f.name) _ (same_name f.name) (and_from (is_kind f.kind (kind_of w)) _ hw.0 (and_from (value_fits w) _ hw.1 hrest)))

-- ---- changed rows

-- a value of the kind that the fields give to the name
abbrev SetsFit : List Field → Name → Value → Type 0
SetsFit fields x v = (kind : Kind) × (kind_in fields x ≡ Some kind) × OfKind kind v

abbrev pub ChangesFit : List Field → Row → Type 0
ChangesFit fields given = AllByRecursion (λ (g : Name × Value). SetsFit fields g.0 g.1) given

pub checked_gives : (fields : List Field) (given : Row) → RowFits given → Gives (ChangesFit fields) (checked_kinds fields given)
checked_gives fields [] h = Gives-value [] tt
checked_gives fields (g ∷ gs) h =
    Gives-then {P = λ kind. kind_in fields g.0 ≡ Some kind} (Gives-or (kind_in fields g.0) wrong_kind (λ kind is. is)) λ kind is.
    Gives-then (kind_gives kind g.1 h.0) λ v hv.
    Gives-then (checked_gives fields gs h.1) λ rest hrest.
    Gives-value ((g.0, v) ∷ rest) ((kind, is, hv), hrest)

kind_skips : (b : Bool) (k : Kind) (o : Option Kind) → b ≡ false → (if b then Some k else o) ≡ o
kind_skips true k o e = cc
kind_skips false k o e = refl

kind_takes : (b : Bool) (k : Kind) (o : Option Kind) → b ≡ true → (if b then Some k else o) ≡ Some k
kind_takes true k o e = refl
kind_takes false k o e = cc

-- each field has the kind that its name is found with
abbrev pub KindsAre : List Field → List Field → Type 0
KindsAre fields fs = AllByRecursion (λ (f : Field). kind_in fields f.name ≡ Some f.kind) fs

later_kinds : (g : Field) (gs fs : List Field) → AllByRecursion (λ x. bytes_eq g.name x ≡ false) (field_names fs) → KindsAre gs fs → KindsAre (g ∷ gs) fs
later_kinds g gs [] apart h = tt
later_kinds g gs (f ∷ fs) apart h = (kind_skips (bytes_eq g.name f.name) g.kind (kind_in gs f.name) apart.0 ∙ h.0, later_kinds g gs fs apart.1 h.1)

pub kinds_are : (fields : List Field) → IsDistinct bytes_eq (field_names fields) → KindsAre fields fields
unfolding IsDistinct
kinds_are [] distinct = tt
kinds_are (g ∷ gs) distinct = (kind_takes (bytes_eq g.name g.name) g.kind (kind_in gs g.name) (same_name g.name), later_kinds g gs gs distinct.0 (kinds_are gs distinct.1))

set_choice : (fields : List Field) (x : Name) (g : Name × Value) (b : Bool) (found : Option Value) (v : Value) → (b ≡ true → x ≡ g.0) → SetsFit fields g.0 g.1 → (found ≡ Some v → SetsFit fields x v)
    → cond b (Some g.1) found ≡ Some v → SetsFit fields x v
set_choice fields x g true found v same h k e =
    let is : g.1 ≡ v = cc in
    subst (SetsFit fields x) is (subst (λ n. SetsFit fields n g.1) (sym (same refl)) h)
set_choice fields x g false found v same h k e = k e

set_found : (fields : List Field) (x : Name) (given : Row) (v : Value) → ChangesFit fields given → lookup (bytes_eq x) given ≡ Some v → SetsFit fields x v
set_found fields x [] v h e = cc
set_found fields x (g ∷ gs) v h e = set_choice fields x g (bytes_eq x g.0) (lookup (bytes_eq x) gs) v (one_name x g.0) h.0 (set_found fields x gs v h.1) e

set_kind : (k l : Kind) (v : Value) → Some k ≡ Some l → OfKind l v → OfKind k v
set_kind k l v e h = let same : k ≡ l = cc in subst (λ j. OfKind j v) (sym same) h

-- the value in a changed row
new_value : (fields : List Field) (f : Field) (x : Name) (old : Value) (o : Option Value) → kind_in fields f.name ≡ Some f.kind → f.name ≡ x
    → ((v : Value) → o ≡ Some v → SetsFit fields x v) → OfKind f.kind old → OfKind f.kind (unwrap_or o old)
new_value fields f x old None is same sets h = h
new_value fields f x old (Some v) is same sets h =
    let fit = sets v refl in
    set_kind f.kind fit.0 v (sym is ∙ ap (kind_in fields) same ∙ fit.1) fit.2

changed_each : (fields fs : List Field) (given old : Row) → KindsAre fields fs → ChangesFit fields given → IsTrue (row_fits fs old) → IsTrue (row_fits fs (changed_row given old))
changed_each fields [] given [] kinds changes h = refl
changed_each fields [] given (v ∷ vs) kinds changes h = cc
changed_each fields (f ∷ fs) given [] kinds changes h = cc
changed_each fields (f ∷ fs) given (v ∷ vs) kinds changes h =
    let named = and_parts (bytes_eq f.name v.0) (is_kind f.kind (kind_of v.1) && (value_fits v.1 && row_fits fs vs)) h in
    let typed = and_parts (is_kind f.kind (kind_of v.1)) (value_fits v.1 && row_fits fs vs) named.1 in
    let more = and_parts (value_fits v.1) (row_fits fs vs) typed.1 in
    let new = new_value fields f v.0 v.1 (lookup (bytes_eq v.0) given) kinds.0 (one_name f.name v.0 named.0) (λ w is. set_found fields v.0 given w changes is) (typed.0, more.0) in
    let w : Value = unwrap_or (lookup (bytes_eq v.0) given) v.1 in
    and_from (bytes_eq f.name v.0) _ named.0 (and_from (is_kind f.kind (kind_of w)) _ new.0 (and_from (value_fits w) _ new.1 (changed_each fields fs given vs kinds.1 changes more.1)))

pub changed_fits : (fields : List Field) (given old : Row) → IsDistinct bytes_eq (field_names fields) → ChangesFit fields given → IsTrue (row_fits fields old)
    → IsTrue (row_fits fields (changed_row given old))
changed_fits fields given old distinct changes h = changed_each fields fields given old (kinds_are fields distinct) changes h

-- ---- classes

none_distinct : IsDistinct bytes_eq []
unfolding IsDistinct
none_distinct = tt

pub fields_at : (classes : List ClassDef) (n : ℕ) → AllByRecursion (λ (c : ClassDef). IsDistinct bytes_eq (field_names c.fields)) classes
    → IsDistinct bytes_eq (field_names (slice_index_or classes n no_class).fields)
fields_at [] n h = none_distinct
fields_at (c ∷ cs) zero h = h.0
fields_at (c ∷ cs) (suc n) h = fields_at cs n h.1

-- an object that is changed stays one of its class
pub object_changed : (library : Library) (class : ℕ) (key : ℤ) (given old : Row) → AllByRecursion (λ (c : ClassDef). IsDistinct bytes_eq (field_names c.fields)) library.classes
    → ChangesFit (class_at library class).fields given → IsTrue (object_fits library class key old) → IsTrue (object_fits library class key (changed_row given old))
object_changed library class key given old differ changes h =
    let within = and_parts (nat_lt class (length library.classes)) (fits_64 key && row_fits (class_at library class).fields old) h in
    let keyed = and_parts (fits_64 key) (row_fits (class_at library class).fields old) within.1 in
    and_from (nat_lt class (length library.classes)) _ within.0 (and_from (fits_64 key) _ keyed.0
    (changed_fits (class_at library class).fields given old (fields_at library.classes class differ) changes keyed.1))

-- ---- keys with rows

module _ (library : Library) (env : Environment) (fit : EnvironmentFits library env) where
  pub key_gives : (key : Expression) → IsTrue (expression_fits key) → Gives (λ z. IsTrue (fits_64 z)) (integer_value env key)
  key_gives key h = Gives-then (value_gives library env fit key h) λ v hv. integer_gives v hv

  pub keyed_gives : (P : Row → Type 0) (key : Expression) (pairs : List Assignment) (check : Row → Outcome Row) → IsTrue (expression_fits key) → IsTrue (assignments_fit pairs)
      → ((given : Row) → RowFits given → Gives P (check given)) → Gives (λ (r : KeyedRow). IsTrue (fits_64 r.key) × P r.row) (keyed_row env key pairs check)
  keyed_gives P key pairs check h k checks =
      Gives-then (value_gives library env fit key h) λ v hv.
      Gives-then (assigned_give library env fit pairs k) λ given hgiven.
      Gives-then (integer_gives v hv) λ z hz.
      Gives-then (checks given hgiven) λ row hrow. Gives-value (record { key = z; row = row }) (hz, hrow)

  pub object_gives : (objects : Objects) (class : ℕ) (key : Expression) → IsTrue (expression_fits key) → ObjectsFit library objects → Gives KeyedFits (named_object objects env class key)
  object_gives objects class key h objects_fit =
      Gives-then (key_gives key h) λ k hk.
      Gives-then {P = λ row. IsTrue (object_fits library class k row)} (Gives-or (find_object objects class k) missing (λ row is. found_fit library class k objects row objects_fit is)) λ row hrow.
      Gives-value (record { key = k; row = row }) (object_keyed library class k row hrow)
