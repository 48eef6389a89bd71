-- The front of a row of attempts.
use Rattle.std.proofs.Common.{◌≡◌, refl, sym, ap, ◌∙◌, subst, ℕ, zero, suc, ◌+◌, Bool, true, false, List, [], ◌∷◌, ◌++◌, length, take, drop, map, Option, Some, None, append_assoc}
use Rattle.std.proofs.Common.{append-nil, length-append, get_or, unwrap_or, ◌<◌, ◌↔◌, IfSome, IfNone, not, true≢false, arith}
use Rattle.std.specs.Prelude.{Result, Ok, Err, OnErr}
use Rattle.std.proofs.lemmas.List.{map-append}
use Rattle.hp_model.specs.Values.{Veto}
use Rattle.hp_model.specs.Rules.{Library}
use Rattle.hp_model.specs.Tree.{Task}
use Rattle.hp_model.specs.Cells.{Cells, Holds}
use Rattle.hp_model.specs.Firing.{siblings, fire_task}
use Rattle.hp_model.specs.Answers.{SiblingsAnswer}
use Rattle.hp_model.proofs.Faithful.{Grows}
use Rattle.hp_model.proofs.FaithfulFirings.{goes_on}
use Rattle.hp_view.specs.Adding.{AddsReads}
use Rattle.hp_view.specs.Seeing.{Seeing, GoesOn, IsSame, written, now_in}
use Rattle.hp_attempt.specs.Holding.{IsForAny}
use Rattle.hp_rule.specs.Mapped.{task}
use Rattle.hp_attempt.specs.declared.settling.Settled.{Settled}
use Rattle.hp_attempt.specs.declared.settling.Settled.TheVariants.{Accepted, Rejected}
use Rattle.hp_attempt.specs.declared.outcome.Outcome.{Outcome}
use Rattle.hp_attempt.specs.declared.outcome.Attempt.{Attempt}
use Rattle.hp_attempt.specs.Mapped.{veto_in, firing, attempt}
use Rattle.hp_model.specs.States.{States, ordered_states, IsSoundFor, FaithfulFiringFor, FaithfulSiblingsFor}
use Rattle.hp_model.proofs.ForStates.{sound_as, faithful_of}
use Rattle.hp_attempt.proofs.Siblings.{Completes, completes_more, completes_end, completes_vetoed}
use Rattle.hp_attempt.specs.Fronts.{AreSound, AreSoundFor, last_end, stopped_by, Stays, StopsAt, IsLongest, FrontIs, FrontIsFor, StandsFor, TakesAttempt, TakesSome, AreOutcomes}
use Rattle.hp_attempt.specs.Fronts.{TakesFirst, LeavesFirst}

-- ---- the next of a list

pub drop_next : {A : Type 0} (i : ℕ) (xs : List A) (x : A) (rest : List A) → drop i xs ≡ x ∷ rest → drop (i + 1) xs ≡ rest
drop_next zero xs x rest h = ap (drop 1) h
drop_next (suc i) [] x rest h = cc
drop_next (suc i) (y ∷ xs) x rest h = let e : suc i + 1 ≡ suc (i + 1) = omega arith in ap (λ n. drop n (y ∷ xs)) e ∙ drop_next i xs x rest h

pub take_next : {A : Type 0} (i : ℕ) (xs : List A) (x : A) (rest : List A) → drop i xs ≡ x ∷ rest → take (i + 1) xs ≡ take i xs ++ x ∷ []
take_next zero xs x rest h = ap (take 1) h
take_next (suc i) [] x rest h = cc
take_next (suc i) (y ∷ xs) x rest h = let e : suc i + 1 ≡ suc (i + 1) = omega arith in ap (λ n. take n (y ∷ xs)) e ∙ ap (λ l. y ∷ l) (take_next i xs x rest h)

-- ---- attempts that are sound, and outcomes

sound-push : (states : States) (library : Library) (attempts : List (Option Attempt)) (a : Attempt) → AreSoundFor states library (attempts ++ Some a ∷ [])
    → AreSoundFor states library attempts × IsSoundFor states library (attempt a)
sound-push states library [] a sound = (tt, sound.0)
sound-push states library (None ∷ attempts) a sound = sound-push states library attempts a sound
sound-push states library (Some b ∷ attempts) a sound = let rest = sound-push states library attempts a sound.1 in ((sound.0, rest.0), rest.1)

-- for ordered states they are what they are called sound for
all_sound_as : (library : Library) (attempts : List (Option Attempt)) → AreSound library attempts → AreSoundFor ordered_states library attempts
all_sound_as library [] sound = tt
all_sound_as library (None ∷ attempts) sound = all_sound_as library attempts sound
all_sound_as library (Some a ∷ attempts) sound = (sound_as sound.0, all_sound_as library attempts sound.1)

last-push : (v : Option Veto) (outcomes : List Outcome) (o : Outcome) → last_end v (outcomes ++ o ∷ []) ≡ veto_in o
last-push v [] o = refl
last-push v (p ∷ outcomes) o = last-push (veto_in p) outcomes o

going : (stops : Bool) (v : Option Veto) (outcomes : List Outcome) (o : Outcome) → goes_on stops (veto_in o) ≡ true → stopped_by stops (outcomes ++ o ∷ []) ≡ None
going false v outcomes o on = refl
going true v outcomes o on = last-push None outcomes o ∙ none (veto_in o) on
  where
    none : (v : Option Veto) → goes_on true v ≡ true → v ≡ None
    none None on = refl
    none (Some r) on = cc

-- ---- the front so far

-- whatever tasks follow, with the front they make a whole
pub record SoFar (stops : Bool) (tasks : List Task) (attempts : List (Option Attempt)) (outcomes : List Outcome) (old now : Seeing) : Type 0 where
  pub goes : stopped_by stops outcomes ≡ None
  pub by : (states : States) (library : Library) → AreSoundFor states library (take (length outcomes) attempts) → (rest : List Task)
      → Completes states library (fire_task library) stops (take (length outcomes) tasks ++ rest) (written old) rest now.reads (written now) (map firing outcomes)

grown : {old new : Seeing} → GoesOn old new → Grows old.reads new.reads
grown on = record { others = on.reads.0; are = on.reads.1 }

pub none_yet : (stops : Bool) (tasks : List Task) (attempts : List (Option Attempt)) (outcomes : List Outcome) (v : Seeing) → outcomes ≡ [] → SoFar stops tasks attempts outcomes v v
none_yet stops tasks attempts outcomes v is =
    subst (λ os. SoFar stops tasks attempts os v v) (sym is) (record { goes = none stops; by = λ states library sound rest. record { by = λ more after g grows q. q } })
  where
    none : (stops : Bool) → stopped_by stops [] ≡ None
    none true = refl
    none false = refl

-- ---- what the view has accepted so far

pub takes_none : (attempts : List (Option Attempt)) (outcomes : List Outcome) (v : Seeing) → outcomes ≡ [] → TakesSome (length outcomes) attempts v v
takes_none attempts outcomes v is = subst (λ os. TakesSome (length os) attempts v v) (sym is) (record { base = refl; reads = refl; changes = refl; undo = refl })

pub no_outcomes : (attempts : List (Option Attempt)) (outcomes : List Outcome) → outcomes ≡ [] → AreOutcomes outcomes attempts
no_outcomes attempts outcomes is = subst (λ os. AreOutcomes os attempts) (sym is) tt

same_then : {first old new : Seeing} → IsSame first old → IsSame old new → IsSame first new
same_then p q = record { base = q.base ∙ p.base; reads = q.reads ∙ p.reads; changes = q.changes ∙ p.changes; undo = q.undo ∙ p.undo }

-- a view that is the same has accepted the same
pub takes_same : (n : ℕ) (attempts : List (Option Attempt)) (first : Seeing) {old new : Seeing} → TakesSome n attempts first old → IsSame old new → TakesSome n attempts first new
takes_same zero attempts first taken same = same_then taken same
takes_same (suc n) attempts first (a, rest, mid, at, before, takes) same = (
  a,
  rest,
  mid,
  at,
  before,
  record {
    base = same.base ∙ takes.base;
    reads = subst (AddsReads (IsForAny (written mid) a.reads) mid.reads) (sym same.reads) takes.reads;
    changes = same.changes ∙ takes.changes;
  },
)

-- one attempt more
takes_more : (attempts : List (Option Attempt)) (outcomes : List Outcome) (o : Outcome) (t : Task) (left : List (Option Attempt)) (first : Seeing) {old new : Seeing}
    → TakesSome (length outcomes) attempts first old → TakesFirst t old new (drop (length outcomes) attempts) left o → TakesSome (length (outcomes ++ o ∷ [])) attempts first new
takes_more attempts outcomes o t left first {old} {new} so_far takes =
    let e : suc (length outcomes) ≡ length outcomes + 1 = omega arith in
    subst (λ n. TakesSome n attempts first new) (e ∙ sym (length-append outcomes (o ∷ []))) (takes.taken, left, old, takes.first, so_far, takes.takes)

outcomes_more : (outcomes : List Outcome) (attempts : List (Option Attempt)) (o : Outcome) (a : Attempt) (rest : List (Option Attempt)) → AreOutcomes outcomes attempts
    → drop (length outcomes) attempts ≡ Some a ∷ rest → a.outcome ≡ o
    → AreOutcomes (outcomes ++ o ∷ []) attempts
outcomes_more [] [] o a rest are at is = cc
outcomes_more [] (None ∷ attempts) o a rest are at is = cc
outcomes_more [] (Some b ∷ attempts) o a rest are at is = let same : a ≡ b = cc in (subst (λ (x : Attempt). x.outcome ≡ o) same is, tt)
outcomes_more (p ∷ outcomes) [] o a rest are at is = absurd are
outcomes_more (p ∷ outcomes) (None ∷ attempts) o a rest are at is = absurd are
outcomes_more (p ∷ outcomes) (Some b ∷ attempts) o a rest are at is = (are.0, outcomes_more outcomes attempts o a rest are.1 at is)

-- what is so where a call fails
pub on_err : {X E P : Type 0} (r : Result X E) → P → OnErr r P
on_err (Ok x) p = tt
on_err (Err e) p = p

-- the attempt was accepted, whose outcome found no room
pub takes_unpushed : (attempts : List (Option Attempt)) (outcomes : List Outcome) (given : Option Outcome) (o : Outcome) (t : Task) (old_left left : List (Option Attempt)) (first old new : Seeing)
    → TakesSome (length outcomes) attempts first old → old_left ≡ drop (length outcomes) attempts → IfSome given (λ o. TakesFirst t old new old_left left o)
    → given ≡ Some o → TakesSome (length (outcomes ++ o ∷ [])) attempts first new
takes_unpushed attempts outcomes given o t old_left left first old new so_far was taken is =
    takes_more attempts outcomes o t left first so_far (subst (λ l. TakesFirst t old new l left o) was (subst (λ p. IfSome p (λ o. TakesFirst t old new old_left left o)) is taken))

-- one task and its attempt more
module _ (stops : Bool) (tasks : List Task) (attempts : List (Option Attempt)) (outcomes : List Outcome) (o : Outcome) (t : Task) (ts : List Task)
    (left : List (Option Attempt)) {first old new : Seeing}
    (so_far : SoFar stops tasks attempts outcomes first old) (next : drop (length outcomes) tasks ≡ t ∷ ts) (takes : TakesFirst t old new (drop (length outcomes) attempts) left o)
    (on : GoesOn old new) where
  now_long : length (outcomes ++ o ∷ []) ≡ length outcomes + 1
  now_long = length-append outcomes (o ∷ [])

  tasks_more : take (length (outcomes ++ o ∷ [])) tasks ≡ take (length outcomes) tasks ++ t ∷ []
  tasks_more = ap (λ n. take n tasks) now_long ∙ take_next (length outcomes) tasks t ts next

  attempts_more : take (length (outcomes ++ o ∷ [])) attempts ≡ take (length outcomes) attempts ++ Some takes.taken ∷ []
  attempts_more = ap (λ n. take n attempts) now_long ∙ take_next (length outcomes) attempts (Some takes.taken) left takes.first

  pub left_more : drop (length (outcomes ++ o ∷ [])) attempts ≡ left
  left_more = ap (λ n. drop n attempts) now_long ∙ drop_next (length outcomes) attempts (Some takes.taken) left takes.first

  firings_more : map firing (outcomes ++ o ∷ []) ≡ map firing outcomes ++ firing o ∷ []
  firings_more = map-append firing outcomes (o ∷ [])

  sound_parts : (states : States) (library : Library) → AreSoundFor states library (take (length (outcomes ++ o ∷ [])) attempts)
      → AreSoundFor states library (take (length outcomes) attempts) × IsSoundFor states library (attempt takes.taken)
  sound_parts states library sound = sound-push states library (take (length outcomes) attempts) takes.taken (subst (AreSoundFor states library) attempts_more sound)

  fires : (states : States) (library : Library) → IsSoundFor states library (attempt takes.taken)
      → FaithfulFiringFor states library (λ S. fire_task library S t) new.reads (written old) (written new) (firing o)
  fires states library sound =
      subst (λ (x : Outcome). FaithfulFiringFor states library (λ S. fire_task library S t) new.reads (written old) (written new) (firing x)) takes.gives (takes.stands.faithful states library sound)

  pub one_more : goes_on stops (veto_in o) ≡ true → SoFar stops tasks attempts (outcomes ++ o ∷ []) first new
  one_more goes = record {
    goes = going stops None outcomes o goes;
    by = λ states library sound rest.
        let parts = sound_parts states library sound in
        let whole : take (length outcomes) tasks ++ t ∷ rest ≡ take (length (outcomes ++ o ∷ [])) tasks ++ rest = sym (append_assoc (take (length outcomes) tasks) (t ∷ []) rest)
        ∙ sym (ap (λ l. l ++ rest) tasks_more) in
        subst (λ l. Completes states library (fire_task library) stops l (written first) rest new.reads (written new) (map firing (outcomes ++ o ∷ []))) whole
        (subst (λ fs. Completes states library (fire_task library) stops (take (length outcomes) tasks ++ t ∷ rest) (written first) rest new.reads (written new) fs) (sym firings_more)
        (completes_more states library (fire_task library) stops (take (length outcomes) tasks ++ t ∷ rest) (written first) goes (grown on)
        (so_far.by states library parts.0 (t ∷ rest)) (fires states library parts.1)));
  }

-- the front ends
pub front_end : {stops : Bool} {tasks : List Task} {attempts : List (Option Attempt)} {outcomes : List Outcome} {old new : Seeing} → SoFar stops tasks attempts outcomes old new
    → FrontIsFor stops tasks attempts outcomes old new
front_end {stops} {tasks} {attempts} {outcomes} {old} {new} so_far = record {
  faithful = λ states library sound.
      let n = length outcomes in
      subst (λ l. FaithfulSiblingsFor states library (siblings (fire_task library) stops l) new.reads (written old) (written new)
      (record { firings = map firing outcomes; vetoed_by = stopped_by stops outcomes })) (append-nil (take n tasks))
      (subst (λ v. FaithfulSiblingsFor states library (siblings (fire_task library) stops (take n tasks ++ [])) new.reads (written old) (written new)
      (record { firings = map firing outcomes; vetoed_by = v })) (sym so_far.goes)
      (completes_end states library (fire_task library) stops (take n tasks ++ []) (written old) (so_far.by states library sound [])));
}

-- what is so for each class of states is so for ordered ones
pub front_ordered : {stops : Bool} {tasks : List Task} {attempts : List (Option Attempt)} {outcomes : List Outcome} {old new : Seeing}
    → FrontIsFor stops tasks attempts outcomes old new → FrontIs stops tasks attempts outcomes old new
front_ordered {attempts = attempts} {outcomes} front =
    record { faithful = λ library sound. faithful_of (front.faithful ordered_states library (all_sound_as library (take (length outcomes) attempts) sound)) }

-- ---- the first attempt

first_is : (attempts : List (Option Attempt)) (a b : Attempt) (rest : List (Option Attempt)) (d : Option Attempt) → attempts ≡ Some b ∷ rest → Some a ≡ get_or attempts 0 d → a ≡ b
first_is attempts a b rest d is at = ap (λ o. unwrap_or o a) (at ∙ ap (λ l. get_or l 0 d) is)

-- it stays where it was rejected
stays_rejected : (now : Cells) (t : Task) (attempts : List (Option Attempt)) (a : Attempt) (d : Option Attempt) → Some a ≡ get_or attempts 0 d
    → ((task a.task ≡ t) × Holds now a.reads → ⊥) → Stays now t attempts
stays_rejected now t [] a d at fails = tt
stays_rejected now t (None ∷ attempts) a d at fails = tt
stays_rejected now t (Some b ∷ attempts) a d at fails = subst (λ (x : Attempt). (task x.task ≡ t) × Holds now x.reads → ⊥) (first_is (Some b ∷ attempts) a b attempts d refl at) fails

apart : Rejected ≡ Accepted → ⊥
apart e = cc

pub leaves_first : (t : Task) {old new : Seeing} (attempts : List (Option Attempt)) (a : Attempt) (d : Option Attempt) (r : Settled) → Some a ≡ get_or attempts 0 d → r ≡ Rejected
    → (r ≡ Rejected → new ≡ old) → (r ≡ Accepted) ↔ ((task a.task ≡ t) × Holds (now_in old) a.reads) → LeavesFirst t old new attempts attempts
leaves_first t {old} {new} attempts a d r at is rejected accepted =
    let same : new ≡ old = rejected is in
    record {
      attempts = refl;
      view = same;
      stays = stays_rejected (now_in new) t attempts a d at (λ both. apart (sym is ∙ accepted.1 (both.0, subst (λ v. Holds (now_in v) a.reads) same both.1)));
    }

pub takes_first : (t : Task) {old new : Seeing} (before after : List (Option Attempt)) (a b : Attempt) (d : Option Attempt) → before ≡ Some b ∷ after → Some a ≡ get_or before 0 d
    → StandsFor t a old new → TakesAttempt a old new → TakesFirst t old new before after b.outcome
takes_first t {old} {new} before after a b d is at stands takes = record {
  taken = b;
  first = is;
  gives = refl;
  takes = subst (λ (x : Attempt). TakesAttempt x old new) (first_is before a b after d is at) takes;
  stands = subst (λ (x : Attempt). StandsFor t x old new) (first_is before a b after d is at) stands;
}

-- ---- why the front ends

-- the first attempt that is left can't be accepted
longest_stays : (v : Option Veto) (now : Cells) (tasks ts : List Task) (t : Task) (left : List (Option Attempt)) → tasks ≡ t ∷ ts → Stays now t left → IsLongest v now tasks left
longest_stays (Some r) now tasks ts t left next stays = tt
longest_stays None now tasks ts t left next stays = subst (λ l. StopsAt now l left) (sym next) stays

-- a veto
module _ (tasks : List Task) (attempts : List (Option Attempt)) (outcomes : List Outcome) (o : Outcome) (t : Task) (ts : List Task) (left : List (Option Attempt)) {first old new : Seeing}
    (next : drop (length outcomes) tasks ≡ t ∷ ts) (takes : TakesFirst t old new (drop (length outcomes) attempts) left o) (on : GoesOn old new) where
  vetoed_at : (r : Veto) → veto_in o ≡ Some r → SoFar true tasks attempts outcomes first old → FrontIsFor true tasks attempts (outcomes ++ o ∷ []) first new
  vetoed_at r vetoes so_far = record {
    faithful = λ states library sound.
        let parts = sound_parts true tasks attempts outcomes o t ts left so_far next takes on states library sound in
        let fires_now = fires true tasks attempts outcomes o t ts left so_far next takes on states library parts.1 in
        let fired = completes_vetoed states library (fire_task library) (take (length outcomes) tasks ++ t ∷ []) (written first) r vetoes (grown on)
        (so_far.by states library parts.0 (t ∷ [])) fires_now in
        let tasks_are = tasks_more true tasks attempts outcomes o t ts left so_far next takes on in
        let firings_are = firings_more true tasks attempts outcomes o t ts left so_far next takes on in
        let veto_is : stopped_by true (outcomes ++ o ∷ []) ≡ Some r = last-push None outcomes o ∙ vetoes in
        subst (λ l. FaithfulSiblingsFor states library (siblings (fire_task library) true l) new.reads (written first) (written new)
        (record { firings = map firing (outcomes ++ o ∷ []); vetoed_by = stopped_by true (outcomes ++ o ∷ []) })) (sym tasks_are)
        (subst (λ (a : SiblingsAnswer). FaithfulSiblingsFor states library (siblings (fire_task library) true (take (length outcomes) tasks ++ t ∷ []))
        new.reads (written first) (written new) a) (λ i. record { firings = sym firings_are i; vetoed_by = sym veto_is i }) fired);
  }

  pub front_vetoed : (stops : Bool) → goes_on stops (veto_in o) ≡ false → SoFar stops tasks attempts outcomes first old → FrontIsFor stops tasks attempts (outcomes ++ o ∷ []) first new
  front_vetoed stops halts so_far = by stops (veto_in o) refl halts so_far
    where
      by : (stops : Bool) (v : Option Veto) → veto_in o ≡ v → goes_on stops v ≡ false → SoFar stops tasks attempts outcomes first old → FrontIsFor stops tasks attempts (outcomes ++ o ∷ []) first new
      by true None is halts so_far = cc
      by true (Some r) is halts so_far = vetoed_at r is so_far
      by false v is halts so_far = cc

pub longest_vetoed : (stops : Bool) (outcomes : List Outcome) (o : Outcome) (now : Cells) (tasks : List Task) (left : List (Option Attempt))
    → goes_on stops (veto_in o) ≡ false → IsLongest (stopped_by stops (outcomes ++ o ∷ [])) now tasks left
longest_vetoed stops outcomes o now tasks left halts = by stops (veto_in o) refl halts
  where
    by : (stops : Bool) (v : Option Veto) → veto_in o ≡ v → goes_on stops v ≡ false → IsLongest (stopped_by stops (outcomes ++ o ∷ [])) now tasks left
    by true None is halts = cc
    by true (Some r) is halts = subst (λ v. IsLongest v now tasks left) (sym (last-push None outcomes o ∙ is)) tt
    by false v is halts = cc

-- ---- the tasks that are left

pub tasks_left : {A B : Type 0} (f : A → B) (xs : List A) (i : ℕ) (a : A) → i < length xs → a ≡ get_or xs i a → drop i (map f xs) ≡ f a ∷ drop (i + 1) (map f xs)
tasks_left f [] i a within is = absurd (omega arith)
tasks_left f (x ∷ xs) zero a within is = ap (λ y. f y ∷ map f xs) (sym is)
tasks_left f (x ∷ xs) (suc i) a within is =
    let e : suc i + 1 ≡ suc (i + 1) = omega arith in
    let less : i < length xs = omega arith in
    tasks_left f xs i a less is ∙ ap (λ n. f a ∷ drop n (f x ∷ map f xs)) (sym e)

-- ---- what one attempt more makes of the front

pub record Stepped (stops : Bool) (tasks : List Task) (attempts : List (Option Attempt)) (outcomes : List Outcome) (o : Outcome) (rest : List (Option Attempt)) (first new : Seeing) : Type 0 where
  pub left : rest ≡ drop (length outcomes) attempts
  pub more : goes_on stops (veto_in o) ≡ true → SoFar stops tasks attempts outcomes first new
  pub last : goes_on stops (veto_in o) ≡ false → FrontIsFor stops tasks attempts outcomes first new
  pub longest : goes_on stops (veto_in o) ≡ false → (now : Cells) (ts : List Task) → IsLongest (stopped_by stops outcomes) now ts rest
  pub taken : TakesSome (length outcomes) attempts first new
  pub are : AreOutcomes outcomes attempts

pub step : (stops : Bool) (tasks : List Task) (attempts : List (Option Attempt)) (before after : List Outcome) (given : Option Outcome) (o : Outcome)
    (t : Task) (ts : List Task) (old_left left : List (Option Attempt)) {first old new : Seeing}
    → SoFar stops tasks attempts before first old → TakesSome (length before) attempts first old → AreOutcomes before attempts → drop (length before) tasks ≡ t ∷ ts
    → old_left ≡ drop (length before) attempts
    → IfSome given (λ o. TakesFirst t old new old_left left o) → given ≡ Some o → GoesOn old new → after ≡ before ++ o ∷ [] → Stepped stops tasks attempts after o left first new
step stops tasks attempts before after given o t ts old_left left {first} {old} {new} so_far taken_before are_before next was taken is on all =
    let takes : TakesFirst t old new (drop (length before) attempts) left o =
    subst (λ l. TakesFirst t old new l left o) was (subst (λ p. IfSome p (λ o. TakesFirst t old new old_left left o)) is taken) in
    subst (λ os. Stepped stops tasks attempts os o left first new) (sym all)
    (record {
      left = sym (left_more stops tasks attempts before o t ts left so_far next takes on);
      more = one_more stops tasks attempts before o t ts left so_far next takes on;
      last = λ halts. front_vetoed tasks attempts before o t ts left next takes on stops halts so_far;
      longest = λ halts now ts. longest_vetoed stops before o now ts left halts;
      taken = takes_more attempts before o t left first taken_before takes;
      are = outcomes_more before attempts o takes.taken left are_before takes.first takes.gives;
    })

-- whether it stops, as a test says
pub halting : (goes stopped : Bool) → stopped ≡ not goes → stopped ≡ true → goes ≡ false
halting true stopped is so = absurd (true≢false (sym so ∙ is))
halting false stopped is so = refl

pub not_halting : (goes stopped : Bool) → stopped ≡ not goes → stopped ≡ false → goes ≡ true
not_halting true stopped is so = refl
not_halting false stopped is so = absurd (true≢false (sym is ∙ so))

-- ---- the first attempt stays

pub record Ended (stops : Bool) (tasks : List Task) (attempts : List (Option Attempt)) (outcomes : List Outcome) (rest : List (Option Attempt)) (first new : Seeing) : Type 0 where
  pub front : FrontIsFor stops tasks attempts outcomes first new
  pub longest : IsLongest (stopped_by stops outcomes) (now_in new) (drop (length outcomes) tasks) rest
  pub taken : TakesSome (length outcomes) attempts first new

pub ended : (stops : Bool) (tasks : List Task) (attempts : List (Option Attempt)) (outcomes : List Outcome) (given : Option Outcome) (t : Task) (ts : List Task)
    (old_left left : List (Option Attempt)) {first old new : Seeing}
    → SoFar stops tasks attempts outcomes first old → TakesSome (length outcomes) attempts first old → drop (length outcomes) tasks ≡ t ∷ ts
    → IfNone given (LeavesFirst t old new old_left left) → given ≡ None → Ended stops tasks attempts outcomes left first new
ended stops tasks attempts outcomes given t ts old_left left {first} {old} {new} so_far taken next stays none =
    let leaves = subst (λ p. IfNone p (LeavesFirst t old new old_left left)) none stays in
    record {
      front = subst (FrontIsFor stops tasks attempts outcomes first) (sym leaves.view) (front_end so_far);
      longest = longest_stays (stopped_by stops outcomes) (now_in new) (drop (length outcomes) tasks) ts t left next leaves.stays;
      taken = subst (TakesSome (length outcomes) attempts first) (sym leaves.view) taken;
    }
