-- Operations and occurrences keep a state fit: its objects, its rules' pasts, and the occurrences in them.
use Rattle.std.proofs.Common.{◌≡◌, refl, ap, sym, ◌∙◌, subst, ℕ, zero, suc, ℤ, List, [], ◌∷◌, ◌++◌, length, map, Option, None, Some, Bool, true, false, cond, IsTrue}
use Rattle.std.proofs.lemmas.Bool.{and_parts, and_from}
use Rattle.std.proofs.lemmas.List.{length-set}
use Rattle.std.specs.Prelude.{⊤, slice_get, slice_set, option_to_list, option_map, is_some, if◌then◌else◌, replicate}
use Rattle.std.specs.Option.{option_or}
use Rattle.std.specs.List.{AllByRecursion, list_all, last_or, slice_index_or}
use Rattle.std.specs.Map.{remove_entry}
use Rattle.std.specs.Ordering.{match_ordering, is_eq}
use Rattle.std.specs.BTreeMap.{is_at}
use Rattle.std.specs.declared.cmp.Ordering.{Ordering}
use Rattle.std.specs.declared.cmp.Ordering.TheVariants.{Less, Equal, Greater}
use Rattle.hp_model.specs.Values.{Row}
use Rattle.hp_model.specs.Occurrences.{Primitive, History, Occurrence, primitive_occurrence}
use Rattle.hp_model.specs.Events.{Pattern, matches, Event, pattern_event, or_event, seq_event, closure_event, Occurs, occurrences, occurrences_since, joined, sequences}
use Rattle.hp_model.specs.Events.{sequence_at, gathered, closed, closure_at, pattern_at, occurrence_of, total_count}
use Rattle.hp_model.specs.Rules.{Library, RuleOperation, install, enable, disable, remove}
use Rattle.hp_model.specs.State.{State, RuleState, Status, absent, enabled, disabled, Objects, ObjectName, object_name, compare_names, find_object, write_object, object_fits}
use Rattle.hp_model.specs.State.{primitive_fits, with_status, rule_state, with_objects, with_rule, extended_rule, extended, initial_state, IsOrdered, IsFit}
use Rattle.hp_model.specs.Cells.{Cell, object_cell, rule_cell, detector_cell}
use Rattle.hp_model.specs.Tree.{Operation, create_op, update_op, delete_op, rule_op, apply}
use Rattle.hp_model.specs.Firing.{operated_rule}
use Rattle.hp_model.proofs.BridgesCells.{exact_cell, name_at}
use Rattle.hp_model.proofs.Ordered.{apply_ordered}
use Rattle.hp_model.proofs.UnitRuns.{initial_ordered}
use Rattle.hp_model.proofs.FitValues.{Gives, Gives-value, Gives-none, each_from, each_to, each_append, ObjectsFit, PrimitiveFits, OccurrenceFits, OptionFits}

-- ---- objects

abbrev ObjectFits : Library → ObjectName × Row → Type 0
ObjectFits library o = IsTrue (object_fits library o.0.class o.0.key o.1)

abbrev FitsAt : Library → Row → Cell → Type 0
FitsAt library row (object_cell class key) = IsTrue (object_fits library class key row)
FitsAt library row (rule_cell n) = ⊤
FitsAt library row (detector_cell n) = ⊤

-- an object found at a class and a key is of that class and that key
one_name : (class : ℕ) (key : ℤ) (name : ObjectName) → is_at (compare_names (object_name class key)) name ≡ true → object_cell class key ≡ object_cell name.class name.key
one_name class key name h = exact_cell (object_cell class key) (object_cell name.class name.key) (sym (name_at class key name) ∙ h)

written_choice : (library : Library) (class : ℕ) (key : ℤ) (row : Row) (o : ObjectName × Row) (os more : Objects) (r : Ordering)
    → (is_eq r ≡ true → object_cell class key ≡ object_cell o.0.class o.0.key)
    → IsTrue (object_fits library class key row) → ObjectFits library o → ObjectsFit library os → ObjectsFit library more
    → ObjectsFit library (match_ordering r ((object_name class key, row) ∷ o ∷ os) ((o.0, row) ∷ os) (o ∷ more))
written_choice library class key row o os more Less same fit here there rest = (fit, (here, there))
written_choice library class key row o os more Equal same fit here there rest = (subst (FitsAt library row) (same refl) fit, there)
written_choice library class key row o os more Greater same fit here there rest = (here, rest)

written_fit : (library : Library) (class : ℕ) (key : ℤ) (row : Row) (objects : Objects) → IsTrue (object_fits library class key row) → ObjectsFit library objects
    → ObjectsFit library (write_object objects class key row)
written_fit library class key row [] fit h = (fit, tt)
written_fit library class key row (o ∷ os) fit h =
    written_choice library class key row o os (write_object os class key row) (compare_names (object_name class key) o.0) (one_name class key o.0) fit
    h.0 h.1 (written_fit library class key row os fit h.1)

removed_choice : (library : Library) (b : Bool) (o : ObjectName × Row) (os more : Objects) → ObjectFits library o → ObjectsFit library os → ObjectsFit library more
    → ObjectsFit library (cond b os (o ∷ more))
removed_choice library true o os more here there rest = there
removed_choice library false o os more here there rest = (here, rest)

removed_fit : (library : Library) (test : ObjectName → Bool) (objects : Objects) → ObjectsFit library objects → ObjectsFit library (remove_entry test objects)
removed_fit library test [] h = tt
removed_fit library test (o ∷ os) h = removed_choice library (test o.0) o os (remove_entry test os) h.0 h.1 (removed_fit library test os h.1)

found_choice : (library : Library) (class : ℕ) (key : ℤ) (o : ObjectName × Row) (b : Bool) (found : Option Row) (row : Row) → (b ≡ true → object_cell class key ≡ object_cell o.0.class o.0.key)
    → ObjectFits library o → (found ≡ Some row → IsTrue (object_fits library class key row)) → cond b (Some o.1) found ≡ Some row → IsTrue (object_fits library class key row)
found_choice library class key o true found row same here rest e =
    let is : o.1 ≡ row = cc in
    subst (λ r. IsTrue (object_fits library class key r)) is (subst (FitsAt library o.1) (sym (same refl)) here)
found_choice library class key o false found row same here rest e = rest e

pub found_fit : (library : Library) (class : ℕ) (key : ℤ) (objects : Objects) (row : Row) → ObjectsFit library objects → find_object objects class key ≡ Some row
    → IsTrue (object_fits library class key row)
found_fit library class key [] row h e = cc
found_fit library class key (o ∷ os) row h e =
    found_choice library class key o (is_at (compare_names (object_name class key)) o.0) (find_object os class key) row (one_name class key o.0) h.0 (found_fit library class key os row h.1) e

-- ---- pasts

abbrev pub PastFits : Library → RuleState → Type 0
PastFits library r = AllByRecursion (PrimitiveFits library) r.past

-- the parts of a fit state, and what has such parts
pub objects_of_fit : (library : Library) (S : State) → IsFit library S → ObjectsFit library S.objects
objects_of_fit library S fit = each_from (λ (o : ObjectName × Row). object_fits library o.0.class o.0.key o.1) S.objects fit.objects_fit

pasts_each : (library : Library) (rs : List RuleState) → IsTrue (list_all (λ (r : RuleState). list_all (primitive_fits library) r.past) rs) → AllByRecursion (PastFits library) rs
pasts_each library [] h = tt
pasts_each library (r ∷ rs) h =
    let parts = and_parts (list_all (primitive_fits library) r.past) (list_all (λ (s : RuleState). list_all (primitive_fits library) s.past) rs) h in
    (each_from (primitive_fits library) r.past parts.0, pasts_each library rs parts.1)

each_past : (library : Library) (rs : List RuleState) → AllByRecursion (PastFits library) rs → IsTrue (list_all (λ (r : RuleState). list_all (primitive_fits library) r.past) rs)
each_past library [] h = refl
each_past library (r ∷ rs) h = and_from (list_all (primitive_fits library) r.past) _ (each_to (primitive_fits library) r.past h.0) (each_past library rs h.1)

pub pasts_of_fit : (library : Library) (S : State) → IsFit library S → AllByRecursion (PastFits library) S.rules
pasts_of_fit library S fit = pasts_each library S.rules fit.pasts_fit

fit_from : (library : Library) (S : State) → IsOrdered library S → ObjectsFit library S.objects → AllByRecursion (PastFits library) S.rules → IsFit library S
fit_from library S ordered objects pasts = record {
  ordered = ordered;
  objects_fit = each_to (λ (o : ObjectName × Row). object_fits library o.0.class o.0.key o.1) S.objects objects;
  pasts_fit = each_past library S.rules pasts;
}

extended_past : (library : Library) (p : Primitive) (status : Status) (past : History) → PrimitiveFits library p → AllByRecursion (PrimitiveFits library) past
    → PastFits library (extended_rule p (record { status = status; past = past }))
extended_past library p absent past fit h = h
extended_past library p enabled past fit h = (fit, h)
extended_past library p disabled past fit h = h

extended_pasts : (library : Library) (p : Primitive) (rs : List RuleState) → PrimitiveFits library p → AllByRecursion (PastFits library) rs
    → AllByRecursion (PastFits library) (map (extended_rule p) rs)
extended_pasts library p [] fit h = tt
extended_pasts library p (r ∷ rs) fit h = (extended_past library p r.status r.past fit h.0, extended_pasts library p rs fit h.1)

length-map : {X Y : Type 0} (f : X → Y) (xs : List X) → length (map f xs) ≡ length xs
length-map f [] = refl
length-map f (x ∷ xs) = ap suc (length-map f xs)

-- what is signalled is added to the pasts
pub extended_fits : (library : Library) (p : Primitive) (S : State) → PrimitiveFits library p → IsFit library S → IsFit library (extended p S)
extended_fits library p S fit h =
    fit_from library (extended p S) (record { objects_rise = h.ordered.objects_rise; each_rule = length-map (extended_rule p) S.rules ∙ h.ordered.each_rule })
    (objects_of_fit library S h) (extended_pasts library p S.rules fit (pasts_of_fit library S h))

set_past : (library : Library) (rs : List RuleState) (n : ℕ) (r : RuleState) → PastFits library r → AllByRecursion (PastFits library) rs → AllByRecursion (PastFits library) (slice_set rs n r)
set_past library [] n r fit h = tt
set_past library (s ∷ rs) zero r fit h = (fit, h.1)
set_past library (s ∷ rs) (suc n) r fit h = (h.0, set_past library rs n r fit h.1)

pub with_rule_fits : (library : Library) (S : State) (n : ℕ) (r : RuleState) → PastFits library r → IsFit library S → IsFit library (with_rule S n r)
with_rule_fits library S n r fit h =
    fit_from library (with_rule S n r) (record { objects_rise = h.ordered.objects_rise; each_rule = length-set S.rules n r ∙ h.ordered.each_rule })
    (objects_of_fit library S h) (set_past library S.rules n r fit (pasts_of_fit library S h))

past_at : (library : Library) (rs : List RuleState) (n : ℕ) → AllByRecursion (PastFits library) rs → PastFits library (slice_index_or rs n (with_status absent))
past_at library [] n h = tt
past_at library (r ∷ rs) zero h = h.0
past_at library (r ∷ rs) (suc n) h = past_at library rs n h.1

pub rule_state_fits : (library : Library) (S : State) (n : ℕ) → IsFit library S → PastFits library (rule_state S n)
rule_state_fits library S n h = past_at library S.rules n (pasts_of_fit library S h)

operated_fits : (library : Library) (op : RuleOperation) (status : Status) (past : History) → AllByRecursion (PrimitiveFits library) past
    → Gives (PastFits library) (operated_rule op (record { status = status; past = past }))
operated_fits library install absent past h = Gives-value (with_status enabled) tt
operated_fits library install enabled past h = Gives-value _ h
operated_fits library install disabled past h = Gives-value _ h
operated_fits library enable absent past h = Gives-none _
operated_fits library enable enabled past h = Gives-value _ h
operated_fits library enable disabled past h = Gives-value (with_status enabled) tt
operated_fits library disable absent past h = Gives-none _
operated_fits library disable enabled past h = Gives-value (with_status disabled) tt
operated_fits library disable disabled past h = Gives-value _ h
operated_fits library remove absent past h = Gives-value _ h
operated_fits library remove enabled past h = Gives-value (with_status absent) tt
operated_fits library remove disabled past h = Gives-value (with_status absent) tt

pub operated_rule_gives : (library : Library) (op : RuleOperation) (r : RuleState) → PastFits library r → Gives (PastFits library) (operated_rule op r)
operated_rule_gives library op r h = operated_fits library op r.status r.past h

-- ---- operations

-- the row that an operation writes fits
abbrev pub OperationFits : Library → Operation → Type 0
OperationFits library (create_op class key new) = IsTrue (object_fits library class key new)
OperationFits library (update_op class key new) = IsTrue (object_fits library class key new)
OperationFits library (delete_op class key) = ⊤
OperationFits library (rule_op op n) = ⊤

applied_fit : (library : Library) (op : Operation) (objects : Objects) → OperationFits library op → ObjectsFit library objects → ObjectsFit library (apply op objects)
applied_fit library (create_op class key new) objects fit h = written_fit library class key new objects fit h
applied_fit library (update_op class key new) objects fit h = written_fit library class key new objects fit h
applied_fit library (delete_op class key) objects fit h = removed_fit library (is_at (compare_names (object_name class key))) objects h
applied_fit library (rule_op op n) objects fit h = h

pub operation_fits : (library : Library) (op : Operation) (S : State) → OperationFits library op → IsFit library S → IsFit library (with_objects S (apply op S.objects))
operation_fits library op S fit h =
    fit_from library (with_objects S (apply op S.objects)) (record { objects_rise = apply_ordered op S.objects h.ordered.objects_rise; each_rule = h.ordered.each_rule })
    (applied_fit library op S.objects fit (objects_of_fit library S h)) (pasts_of_fit library S h)

-- ---- the state before all units

none_past : (library : Library) (n : ℕ) → AllByRecursion (PastFits library) (replicate n (with_status absent))
none_past library zero = tt
none_past library (suc n) = (tt, none_past library n)

pub initial_fits : (library : Library) → IsFit library (initial_state library)
initial_fits library = fit_from library (initial_state library) (initial_ordered library) tt (none_past library (length library.rules))

-- ---- what occurs in a past

abbrev EachFits : Library → List Occurrence → Type 0
EachFits library os = AllByRecursion (OccurrenceFits library) os

abbrev OccursFit : Library → Occurs → Type 0
OccursFit library event = (h : History) → AllByRecursion (PrimitiveFits library) h → OptionFits library (event h)

option_each : (library : Library) (o : Option Occurrence) → OptionFits library o → EachFits library (option_to_list o)
option_each library None h = tt
option_each library (Some o) h = (h, tt)

module _ (library : Library) where
  occurrences_fit : (event : Occurs) → OccursFit library event → (h : History) → AllByRecursion (PrimitiveFits library) h → EachFits library (occurrences event h)
  occurrences_fit event fits [] fit = tt
  occurrences_fit event fits (p ∷ h) fit =
      each_append (OccurrenceFits library) (occurrences event h) (option_to_list (event (p ∷ h))) (occurrences_fit event fits h fit.1) (option_each library (event (p ∷ h)) (fits (p ∷ h) fit))

  since_choice : (b : Bool) (os : List Occurrence) → EachFits library os → EachFits library (if b then [] else os)
  since_choice true os h = tt
  since_choice false os h = h

  since_fit : (last event : Occurs) → OccursFit library event → (h : History) → AllByRecursion (PrimitiveFits library) h → EachFits library (occurrences_since last event h)
  since_fit last event fits [] fit = tt
  since_fit last event fits (p ∷ h) fit =
      since_choice (is_some (last (p ∷ h))) (occurrences_since last event h ++ option_to_list (event (p ∷ h)))
      (each_append (OccurrenceFits library) (occurrences_since last event h) (option_to_list (event (p ∷ h))) (since_fit last event fits h fit.1)
      (option_each library (event (p ∷ h)) (fits (p ∷ h) fit)))

  joined_fit : (a b : Option Occurrence) → OptionFits library a → OptionFits library b → OptionFits library (joined a b)
  joined_fit (Some a) (Some b) h k = each_append (PrimitiveFits library) a.parts b.parts h k
  joined_fit (Some a) None h k = tt
  joined_fit None b h k = tt

  got_fit : (os : List Occurrence) (i : ℕ) → EachFits library os → OptionFits library (slice_get os i)
  got_fit [] i h = tt
  got_fit (o ∷ os) zero h = h.0
  got_fit (o ∷ os) (suc i) h = got_fit os i h.1

  sequence_fits : (first second : Occurs) → OccursFit library first → OccursFit library second → OccursFit library (sequence_at first second)
  sequence_fits first second fits then_fits [] fit = tt
  sequence_fits first second fits then_fits (p ∷ h) fit =
      joined_fit (slice_get (occurrences first h) (length (sequences first second h))) (second (p ∷ h))
      (got_fit (occurrences first h) (length (sequences first second h)) (occurrences_fit first fits h fit.1)) (then_fits (p ∷ h) fit)

  last_fits : (o : Option Occurrence) (os : List Occurrence) → OptionFits library o → EachFits library os → OptionFits library (last_or o os)
  last_fits o [] here h = here
  last_fits o (x ∷ xs) here h = last_fits (Some x) xs h.0 h.1

  counted_fits : (o : Option Occurrence) (n : ℕ) → OptionFits library o → OptionFits library (option_map (λ (last : Occurrence). record { parts = last.parts; count = n }) o)
  counted_fits None n h = tt
  counted_fits (Some o) n h = h

  gathered_fits : (os : List Occurrence) → EachFits library os → OptionFits library (gathered os)
  gathered_fits os h = counted_fits (last_or None os) (total_count os) (last_fits None os tt h)

  ended_fits : (a b : Option Occurrence) → OptionFits library a → OptionFits library b → OptionFits library (closed a b)
  ended_fits (Some a) (Some b) h k = each_append (PrimitiveFits library) a.parts b.parts h k
  ended_fits (Some a) None h k = tt
  ended_fits None b h k = tt

  closure_fits : (body end : Occurs) → OccursFit library body → OccursFit library end → OccursFit library (closure_at body end)
  closure_fits body end fits end_fits [] fit = tt
  closure_fits body end fits end_fits (p ∷ h) fit =
      ended_fits (gathered (occurrences_since end body h)) (end (p ∷ h)) (gathered_fits (occurrences_since end body h) (since_fit end body fits h fit.1)) (end_fits (p ∷ h) fit)

  matched_fits : (b : Bool) (p : Primitive) → PrimitiveFits library p → OptionFits library (if b then Some (primitive_occurrence p) else None)
  matched_fits true p h = (h, tt)
  matched_fits false p h = tt

  pattern_fits : (pattern : Pattern) → OccursFit library (pattern_at pattern)
  pattern_fits pattern [] fit = tt
  pattern_fits pattern (p ∷ h) fit = matched_fits (matches pattern p) p fit.0

  either_fits : (a b : Option Occurrence) → OptionFits library a → OptionFits library b → OptionFits library (option_or a b)
  either_fits (Some a) b h k = h
  either_fits None b h k = k

  -- the parts of an event's occurrence are in the past
  pub occurrence_fits : (e : Event) → OccursFit library (occurrence_of e)
  occurrence_fits (pattern_event pattern) h fit = pattern_fits pattern h fit
  occurrence_fits (or_event a b) h fit = either_fits (occurrence_of a h) (occurrence_of b h) (occurrence_fits a h fit) (occurrence_fits b h fit)
  occurrence_fits (seq_event a b) h fit = sequence_fits (occurrence_of a) (occurrence_of b) (occurrence_fits a) (occurrence_fits b) h fit
  occurrence_fits (closure_event a t) h fit = closure_fits (occurrence_of a) (occurrence_of t) (occurrence_fits a) (occurrence_fits t) h fit
