-- The parts of an event's occurrences are as its columns say.
use Rattle.std.proofs.Common.{◌≡◌, refl, List, [], ◌∷◌, ◌++◌, length, Option, None, Some, Bool, true, false, ◌&&◌, IsTrue, ℕ, zero, suc}
use Rattle.std.proofs.lemmas.Bool.{and_parts}
use Rattle.std.specs.Prelude.{⊤, ◌||◌, slice_get, option_to_list, option_map, is_some, if◌then◌else◌}
use Rattle.std.specs.Option.{option_or}
use Rattle.std.specs.List.{AllByRecursion, list_any, last_or}
use Rattle.hp_model.specs.Occurrences.{Primitive, History, Occurrence, primitive_occurrence}
use Rattle.hp_model.specs.Events.{Pattern, matches, Event, pattern_event, or_event, seq_event, closure_event, Occurs, occurrences, occurrences_since, joined, sequences}
use Rattle.hp_model.specs.Events.{sequence_at, gathered, closed, closure_at, pattern_at, occurrence_of, total_count}
use Rattle.hp_model.specs.Kinds.{Columns, same_length, merged, either_columns, followed, columns_of}
use Rattle.hp_model.proofs.FitValues.{each_append}
use Rattle.hp_model.proofs.KindValues.{PartsMatch, either_is}

-- ---- columns

parts_append : (cs bs : List (List Pattern)) (exact : Bool) (ps qs : List Primitive) → PartsMatch cs true ps → PartsMatch bs exact qs → PartsMatch (cs ++ bs) exact (ps ++ qs)
parts_append [] bs exact [] qs h k = k
parts_append [] bs exact (p ∷ ps) qs h k = cc
parts_append (c ∷ cs) bs exact [] qs h k = absurd h
parts_append (c ∷ cs) bs exact (p ∷ ps) qs h k = (h.0, parts_append cs bs exact ps qs h.1 k)

pub parts_open : (ps : List Primitive) → PartsMatch [] false ps
parts_open [] = tt
parts_open (p ∷ ps) = refl

parts_more : (cs : List (List Pattern)) (ps qs : List Primitive) → PartsMatch cs false ps → PartsMatch cs false (ps ++ qs)
parts_more [] ps qs h = parts_open (ps ++ qs)
parts_more (c ∷ cs) [] qs h = absurd h
parts_more (c ∷ cs) (p ∷ ps) qs h = (h.0, parts_more cs ps qs h.1)

followed_match : (exact : Bool) (cs : List (List Pattern)) (b : Columns) (ps qs : List Primitive) → PartsMatch cs exact ps → PartsMatch b.places b.exact qs
    → PartsMatch (followed exact cs b).places (followed exact cs b).exact (ps ++ qs)
followed_match true cs b ps qs h k = parts_append cs b.places b.exact ps qs h k
followed_match false cs b ps qs h k = parts_more cs ps qs h

any_left : {A : Type 0} (test : A → Bool) (xs ys : List A) → IsTrue (list_any test xs) → IsTrue (list_any test (xs ++ ys))
any_left test [] ys h = cc
any_left test (x ∷ xs) ys h = either_is (test x) (list_any test xs) h (IsTrue (test x || list_any test (xs ++ ys))) (λ is. or_first (test x) (list_any test (xs ++ ys)) is)
    (λ more. or_second (test x) (list_any test (xs ++ ys)) (any_left test xs ys more))
  where
    or_first : (a b : Bool) → a ≡ true → (a || b) ≡ true
    or_first true b e = refl
    or_first false b e = cc

    or_second : (a b : Bool) → b ≡ true → (a || b) ≡ true
    or_second true b e = refl
    or_second false b e = e

any_right : {A : Type 0} (test : A → Bool) (xs ys : List A) → IsTrue (list_any test ys) → IsTrue (list_any test (xs ++ ys))
any_right test [] ys h = h
any_right test (x ∷ xs) ys h = or_later (test x) (list_any test (xs ++ ys)) (any_right test xs ys h)
  where
    or_later : (a b : Bool) → b ≡ true → (a || b) ≡ true
    or_later true b e = refl
    or_later false b e = e

not_exact : (e f : Bool) → (e ≡ true → f ≡ true) → f ≡ false → e ≡ false
not_exact true f next apart = let holds = next refl in cc
not_exact false f next apart = refl

merged_left : (as' bs : List (List Pattern)) (e ea : Bool) (ps : List Primitive) → (e ≡ true → (ea ≡ true) × (same_length as' bs ≡ true)) → PartsMatch as' ea ps → PartsMatch (merged as' bs) e ps
merged_left [] bs e ea [] all h = tt
merged_left [] bs e ea (p ∷ ps) all h = not_exact e ea (λ is. (all is).0) h
merged_left (a ∷ as') [] e ea [] all h = tt
merged_left (a ∷ as') [] e ea (p ∷ ps) all h = not_exact e false (λ is. (all is).1) refl
merged_left (a ∷ as') (b ∷ bs) e ea [] all h = h
merged_left (a ∷ as') (b ∷ bs) e ea (p ∷ ps) all h = (any_left (λ q. matches q p) a b h.0, merged_left as' bs e ea ps all h.1)

merged_right : (as' bs : List (List Pattern)) (e eb : Bool) (ps : List Primitive) → (e ≡ true → (eb ≡ true) × (same_length as' bs ≡ true)) → PartsMatch bs eb ps → PartsMatch (merged as' bs) e ps
merged_right [] [] e eb [] all h = tt
merged_right [] [] e eb (p ∷ ps) all h = not_exact e eb (λ is. (all is).0) h
merged_right [] (b ∷ bs) e eb [] all h = tt
merged_right [] (b ∷ bs) e eb (p ∷ ps) all h = not_exact e false (λ is. (all is).1) refl
merged_right (a ∷ as') [] e eb [] all h = tt
merged_right (a ∷ as') [] e eb (p ∷ ps) all h = not_exact e eb (λ is. (all is).0) h
merged_right (a ∷ as') (b ∷ bs) e eb [] all h = h
merged_right (a ∷ as') (b ∷ bs) e eb (p ∷ ps) all h = (any_right (λ q. matches q p) a b h.0, merged_right as' bs e eb ps all h.1)

-- ---- what occurs in a past of which each part has a property

module _ (P : Primitive → Type 0) where
  abbrev pub Well : Columns → Occurrence → Type 0
  Well c o = PartsMatch c.places c.exact o.parts × AllByRecursion P o.parts

  abbrev pub MayBeWell : Columns → Option Occurrence → Type 0
  MayBeWell c None = ⊤
  MayBeWell c (Some o) = Well c o

  abbrev AllWell : Columns → List Occurrence → Type 0
  AllWell c os = AllByRecursion (Well c) os

  abbrev OccursWell : Columns → Occurs → Type 0
  OccursWell c event = (h : History) → AllByRecursion P h → MayBeWell c (event h)

  option_each : (c : Columns) (o : Option Occurrence) → MayBeWell c o → AllWell c (option_to_list o)
  option_each c None h = tt
  option_each c (Some o) h = (h, tt)

  occurrences_well : (c : Columns) (event : Occurs) → OccursWell c event → (h : History) → AllByRecursion P h → AllWell c (occurrences event h)
  occurrences_well c event well [] all = tt
  occurrences_well c event well (p ∷ h) all =
      each_append (Well c) (occurrences event h) (option_to_list (event (p ∷ h))) (occurrences_well c event well h all.1) (option_each c (event (p ∷ h)) (well (p ∷ h) all))

  since_choice : (c : Columns) (b : Bool) (os : List Occurrence) → AllWell c os → AllWell c (if b then [] else os)
  since_choice c true os h = tt
  since_choice c false os h = h

  since_well : (c : Columns) (last event : Occurs) → OccursWell c event → (h : History) → AllByRecursion P h → AllWell c (occurrences_since last event h)
  since_well c last event well [] all = tt
  since_well c last event well (p ∷ h) all =
      since_choice c (is_some (last (p ∷ h))) (occurrences_since last event h ++ option_to_list (event (p ∷ h)))
      (each_append (Well c) (occurrences_since last event h) (option_to_list (event (p ∷ h))) (since_well c last event well h all.1) (option_each c (event (p ∷ h)) (well (p ∷ h) all)))

  joined_well : (a b : Columns) (o p : Option Occurrence) → MayBeWell a o → MayBeWell b p → MayBeWell (followed a.exact a.places b) (joined o p)
  joined_well a b (Some o) (Some p) h k = (followed_match a.exact a.places b o.parts p.parts h.0 k.0, each_append P o.parts p.parts h.1 k.1)
  joined_well a b (Some o) None h k = tt
  joined_well a b None p h k = tt

  closed_well : (a b : Columns) (o p : Option Occurrence) → MayBeWell a o → MayBeWell b p → MayBeWell (followed a.exact a.places b) (closed o p)
  closed_well a b (Some o) (Some p) h k = (followed_match a.exact a.places b o.parts p.parts h.0 k.0, each_append P o.parts p.parts h.1 k.1)
  closed_well a b (Some o) None h k = tt
  closed_well a b None p h k = tt

  got_well : (c : Columns) (os : List Occurrence) (i : ℕ) → AllWell c os → MayBeWell c (slice_get os i)
  got_well c [] i h = tt
  got_well c (o ∷ os) zero h = h.0
  got_well c (o ∷ os) (suc i) h = got_well c os i h.1

  sequence_well : (a b : Columns) (first second : Occurs) → OccursWell a first → OccursWell b second → OccursWell (followed a.exact a.places b) (sequence_at first second)
  sequence_well a b first second well then_well [] all = tt
  sequence_well a b first second well then_well (p ∷ h) all =
      joined_well a b (slice_get (occurrences first h) (length (sequences first second h))) (second (p ∷ h))
      (got_well a (occurrences first h) (length (sequences first second h)) (occurrences_well a first well h all.1)) (then_well (p ∷ h) all)

  last_well : (c : Columns) (o : Option Occurrence) (os : List Occurrence) → MayBeWell c o → AllWell c os → MayBeWell c (last_or o os)
  last_well c o [] here h = here
  last_well c o (x ∷ xs) here h = last_well c (Some x) xs h.0 h.1

  counted_well : (c : Columns) (o : Option Occurrence) (n : ℕ) → MayBeWell c o → MayBeWell c (option_map (λ (last : Occurrence). record { parts = last.parts; count = n }) o)
  counted_well c None n h = tt
  counted_well c (Some o) n h = h

  gathered_well : (c : Columns) (os : List Occurrence) → AllWell c os → MayBeWell c (gathered os)
  gathered_well c os h = counted_well c (last_or None os) (total_count os) (last_well c None os tt h)

  closure_well : (a b : Columns) (body end : Occurs) → OccursWell a body → OccursWell b end → OccursWell (followed a.exact a.places b) (closure_at body end)
  closure_well a b body end well end_well [] all = tt
  closure_well a b body end well end_well (p ∷ h) all =
      closed_well a b (gathered (occurrences_since end body h)) (end (p ∷ h)) (gathered_well a (occurrences_since end body h) (since_well a end body well h all.1)) (end_well (p ∷ h) all)

  matched_well : (pattern : Pattern) (b : Bool) (p : Primitive) → matches pattern p ≡ b → P p
      → MayBeWell (record { places = (pattern ∷ []) ∷ []; exact = true }) (if b then Some (primitive_occurrence p) else None)
  matched_well pattern true p is h = ((is_first (matches pattern p) is, tt), (h, tt))
    where
      is_first : (b : Bool) → b ≡ true → (b || false) ≡ true
      is_first true e = refl
      is_first false e = cc
  matched_well pattern false p is h = tt

  pattern_well : (pattern : Pattern) → OccursWell (record { places = (pattern ∷ []) ∷ []; exact = true }) (pattern_at pattern)
  pattern_well pattern [] all = tt
  pattern_well pattern (p ∷ h) all = matched_well pattern (matches pattern p) p refl all.0

  either_well : (a b : Columns) (o p : Option Occurrence) → MayBeWell a o → MayBeWell b p → MayBeWell (either_columns a b) (option_or o p)
  either_well a b (Some o) p h k = (
    merged_left a.places b.places (either_columns a b).exact a.exact o.parts (λ is. let parts =
        and_parts a.exact (b.exact && same_length a.places b.places) is in (parts.0, (and_parts b.exact (same_length a.places b.places) parts.1).1)) h.0,
    h.1,
  )
  either_well a b None (Some o) h k = (
    merged_right a.places b.places (either_columns a b).exact b.exact o.parts
        (λ is. and_parts b.exact (same_length a.places b.places) (and_parts a.exact (b.exact && same_length a.places b.places) is).1) k.0,
    k.1,
  )
  either_well a b None None h k = tt

  -- an event's occurrence is as its columns say, and its parts are in the past
  pub occurrence_well : (e : Event) → OccursWell (columns_of e) (occurrence_of e)
  occurrence_well (pattern_event pattern) h all = pattern_well pattern h all
  occurrence_well (or_event a b) h all = either_well (columns_of a) (columns_of b) (occurrence_of a h) (occurrence_of b h) (occurrence_well a h all) (occurrence_well b h all)
  occurrence_well (seq_event a b) h all = sequence_well (columns_of a) (columns_of b) (occurrence_of a) (occurrence_of b) (occurrence_well a) (occurrence_well b) h all
  occurrence_well (closure_event a t) h all = closure_well (columns_of a) (columns_of t) (occurrence_of a) (occurrence_of t) (occurrence_well a) (occurrence_well t) h all
