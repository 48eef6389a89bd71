-- A step of what is known matches a step of the past.
use Rattle.std.proofs.Common.{◌≡◌, refl, ap, ap₂, sym, ◌∙◌, List, [], ◌∷◌, ◌++◌, length, drop, Bool, true, false, ◌&&◌, ◌||◌, Option, None, Some}
use Rattle.std.specs.Prelude.{is_some, option_to_list, slice_get, if◌then◌else◌}
use Rattle.std.specs.Option.{option_or}
use Rattle.hp_model.specs.Occurrences.{Primitive, History, Occurrence, primitive_occurrence}
use Rattle.hp_model.specs.Events.{Event, pattern_event, or_event, seq_event, closure_event, mentions, is_pure, occurrence_of, occurrences, occurrences_since, sequences, joined, gathered, closed}
use Rattle.hp_model.specs.Knowledge.{Knowledge, of_either, of_sequence, of_closure, knowledge}
use Rattle.hp_model.proofs.Detecting.{advance, advance_lem, after_second, gathered_next}
use Rattle.hp_detect.specs.Stepped.{stepped, either_step, sequence_step, closure_step, gathered_after}

-- ---- the model's own step

left_waiting : (s : Option Occurrence) (w more : List Occurrence) → (if is_some s then drop 1 w else w) ++ more ≡ after_second s w ++ more
left_waiting None w more = refl
left_waiting (Some x) w more = refl

gathered_same : (s r u : Option Occurrence) → gathered_after (is_some s) r u ≡ gathered_next s r u
gathered_same (Some e) r u = refl
gathered_same None None u = refl
gathered_same None (Some o) None = refl
gathered_same None (Some o) (Some u) = refl

stepped_advance : (e : Event) (p : Primitive) (h : History) → stepped e (knowledge e h) p ≡ advance e (knowledge e h) p
stepped_advance (pattern_event pattern) p h = refl
stepped_advance (or_event a b) p h =
    ap₂ either_step (stepped_advance a p h) (stepped_advance b p h)
stepped_advance (seq_event a b) p h =
    let w = drop (length (sequences (occurrence_of a) (occurrence_of b) h)) (occurrences (occurrence_of a) h) in
    let r = advance a (knowledge a h) p in
    let s = advance b (knowledge b h) p in
    ap₂ (sequence_step w) (stepped_advance a p h) (stepped_advance b p h)
    ∙ ap (λ v. (joined (slice_get w 0) s.0, of_sequence r.1 s.1 v)) (left_waiting s.0 w (option_to_list r.0))
stepped_advance (closure_event a t) p h =
    let u = gathered (occurrences_since (occurrence_of t) (occurrence_of a) h) in
    let r = advance a (knowledge a h) p in
    let s = advance t (knowledge t h) p in
    ap₂ (closure_step u) (stepped_advance a p h) (stepped_advance t p h)
    ∙ ap (λ v. (closed u s.0, of_closure r.1 s.1 v)) (gathered_same s.0 r.0 u)

-- one step from what is known of a past
pub stepped_lem : (e : Event) (k : Knowledge) (p : Primitive) (h : History) → k ≡ knowledge e h → stepped e k p ≡ (occurrence_of e (p ∷ h), knowledge e (p ∷ h))
stepped_lem e k p h knows = ap (λ l. stepped e l p) knows ∙ stepped_advance e p h ∙ advance_lem e p h

-- ---- where no pattern matches

neither : (a b : Bool) → (a || b) ≡ false → (a ≡ false) × (b ≡ false)
neither true b h = absurd (let f : true ≡ false = h in cc)
neither false b h = (refl, h)

joined_none : (o : Option Occurrence) → joined o None ≡ None
joined_none None = refl
joined_none (Some x) = refl

closed_none : (o : Option Occurrence) → closed o None ≡ None
closed_none None = refl
closed_none (Some x) = refl

append-nil : (xs : List Occurrence) → xs ++ [] ≡ xs
append-nil [] = refl
append-nil (x ∷ xs) = ap (λ ys. x ∷ ys) (append-nil xs)

stepped_idle : (e : Event) (k : Knowledge) (p : Primitive) → mentions e p ≡ false → stepped e k p ≡ (None, k)
stepped_idle (pattern_event pattern) k p h = ap (λ b. (if b then Some (primitive_occurrence p) else None, k)) h
stepped_idle (or_event a b) (of_either k l) p h =
    let unmentioned = neither (mentions a p) (mentions b p) h in
    ap₂ either_step (stepped_idle a k p unmentioned.0) (stepped_idle b l p unmentioned.1)
stepped_idle (seq_event a b) (of_sequence k l w) p h =
    let unmentioned = neither (mentions a p) (mentions b p) h in
    ap₂ (sequence_step w) (stepped_idle a k p unmentioned.0) (stepped_idle b l p unmentioned.1)
    ∙ ap₂ (λ o v. (o, of_sequence k l v)) (joined_none (slice_get w 0)) (append-nil w)
stepped_idle (closure_event a t) (of_closure k l u) p h =
    let unmentioned = neither (mentions a p) (mentions t p) h in
    ap₂ (closure_step u) (stepped_idle a k p unmentioned.0) (stepped_idle t l p unmentioned.1)
    ∙ ap (λ o. (o, of_closure k l u)) (closed_none u)
stepped_idle e k p h = refl

pub unmentioned_occurs : (e : Event) (p : Primitive) (h : History) → mentions e p ≡ false → None ≡ occurrence_of e (p ∷ h)
unmentioned_occurs e p h unmentioned = sym (ap (λ r. r.0) (stepped_idle e (knowledge e h) p unmentioned)) ∙ ap (λ r. r.0) (stepped_lem e (knowledge e h) p h refl)

pub unmentioned_known : (e : Event) (p : Primitive) (h : History) → mentions e p ≡ false → knowledge e h ≡ knowledge e (p ∷ h)
unmentioned_known e p h unmentioned = sym (ap (λ r. r.1) (stepped_idle e (knowledge e h) p unmentioned)) ∙ ap (λ r. r.1) (stepped_lem e (knowledge e h) p h refl)

-- ---- pure events

both : (a b : Bool) → (a && b) ≡ true → (a ≡ true) × (b ≡ true)
both true b h = (refl, h)
both false b h = absurd (let f : false ≡ true = h in cc)

either_occurs : (a b : Bool) (x : Occurrence) → option_or (if a then Some x else None) (if b then Some x else None) ≡ (if a || b then Some x else None)
either_occurs true b x = refl
either_occurs false b x = refl

occurs_as_mentioned : (e : Event) (p : Primitive) (h : History) → is_pure e ≡ true → occurrence_of e (p ∷ h) ≡ (if mentions e p then Some (primitive_occurrence p) else None)
occurs_as_mentioned (pattern_event pattern) p h pure = refl
occurs_as_mentioned (or_event a b) p h pure =
    let halves = both (is_pure a) (is_pure b) pure in
    ap₂ option_or (occurs_as_mentioned a p h halves.0) (occurs_as_mentioned b p h halves.1) ∙ either_occurs (mentions a p) (mentions b p) (primitive_occurrence p)
occurs_as_mentioned (seq_event a b) p h pure = cc
occurs_as_mentioned (closure_event a t) p h pure = cc

pub pure_occurs : (e : Event) (p : Primitive) (h : History) → is_pure e ≡ true → mentions e p ≡ true → occurrence_of e (p ∷ h) ≡ Some (primitive_occurrence p)
pure_occurs e p h pure told = occurs_as_mentioned e p h pure ∙ ap (λ b. if b then Some (primitive_occurrence p) else None) told

pub pure_known : (e : Event) (h i : History) → is_pure e ≡ true → knowledge e h ≡ knowledge e i
pure_known (pattern_event pattern) h i pure = refl
pure_known (or_event a b) h i pure =
    let halves = both (is_pure a) (is_pure b) pure in ap₂ of_either (pure_known a h i halves.0) (pure_known b h i halves.1)
pure_known (seq_event a b) h i pure = cc
pure_known (closure_event a t) h i pure = cc
