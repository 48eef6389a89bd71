-- Groups with workers.
use Rattle.std.proofs.Common.{arith, ◌⊎◌, inl, inr, ◌≡◌, refl, sym, ap, ◌∙◌, subst, ℕ, zero, suc, ◌-◌, ◌<◌, ◌≤◌, Bool, true, false, List, [], ◌∷◌, ◌++◌, length, take, drop, map}
use Rattle.std.proofs.Common.{Option, Some, None, IfSome, slice_set, slice_get, length-append}
use Rattle.std.specs.Prelude.{option_map}
use Rattle.std.proofs.lemmas.Bool.{cases_lt}
use Rattle.std.proofs.lemmas.List.Elements.{All-append, All-cons, All-nil}
use Rattle.std.proofs.Math.ListN.{drop_of_length-le}
use Rattle.std.proofs.lemmas.List.{map-append, drop-drop}
use Rattle.hp_model.specs.Values.{Veto}
use Rattle.hp_model.specs.Rules.{Library}
use Rattle.hp_model.specs.Tree.{Task}
use Rattle.hp_model.specs.Firing.{siblings, fire_task}
use Rattle.hp_model.specs.Soundness.{IsSound}
use Rattle.hp_model.specs.Answers.{FaithfulSiblings}
use Rattle.hp_model.proofs.FaithfulFirings.{GroupCompletes, goes_on, group_more, group_end, group_vetoed}
use Rattle.hp_view.specs.Seeing.{Seeing, GoesOn, written}
use Rattle.hp_view.proofs.Views.{GoesOn-same, GoesOn-then}
use Rattle.hp_attempt.specs.declared.outcome.Outcome.{Outcome}
use Rattle.hp_attempt.specs.declared.outcome.Attempt.{Attempt}
use Rattle.hp_attempt.specs.Fronts.{AreSound, last_end, stopped_by, FrontIs}
use Rattle.hp_attempt.specs.Mapped.{veto_in, firing, attempt}
use Rattle.hp_attempt.proofs.Joining.{front_completes, front_stops}
use Rattle.hp_fire.specs.Runs.{RunsFiring, RunsGroup}
use Rattle.hp_fire.specs.declared.speculate.pending.Tried.{Tried}
use Rattle.hp_fire.specs.Groups.{IsSoFar, AreSoundTries}
use Rattle.hp_fire.proofs.Steps.{grows}

-- what stands for none is none
pub unmapped_none : {A B : Type 0} (f : A → B) (o : Option A) → option_map f o ≡ None → o ≡ None
unmapped_none f None e = refl
unmapped_none f (Some x) e = cc

pub false_true : false ≡ true → ⊥
false_true e = cc

pub not_less : (m n : ℕ) → (m < n → ⊥) → n ≤ m
not_less m n never = by (cases_lt m n)
  where
    by : (m < n) ⊎ (n ≤ m) → n ≤ m
    by (inl less) = absurd (never less)
    by (inr more) = more

-- ---- attempts that are sound

pub sound_none : (library : Library) (xs : List (Option Attempt)) → AreSound library xs → AreSound library (xs ++ None ∷ [])
sound_none library [] s = tt
sound_none library (None ∷ xs) s = sound_none library xs s
sound_none library (Some a ∷ xs) s = (s.0, sound_none library xs s.1)

pub sound_take : (library : Library) (n : ℕ) (xs : List (Option Attempt)) → AreSound library xs → AreSound library (take n xs)
sound_take library zero xs s = tt
sound_take library (suc n) [] s = tt
sound_take library (suc n) (None ∷ xs) s = sound_take library n xs s
sound_take library (suc n) (Some a ∷ xs) s = (s.0, sound_take library n xs s.1)

pub sound_drop : (library : Library) (n : ℕ) (xs : List (Option Attempt)) → AreSound library xs → AreSound library (drop n xs)
sound_drop library zero xs s = s
sound_drop library (suc n) [] s = tt
sound_drop library (suc n) (None ∷ xs) s = sound_drop library n xs s
sound_drop library (suc n) (Some a ∷ xs) s = sound_drop library n xs s.1

-- an entry becomes another attempt, or none
pub sound_set : (library : Library) (xs : List (Option Attempt)) (i : ℕ) (o : Option Attempt) → AreSound library xs → IfSome o (λ a. IsSound library (attempt a)) → AreSound library (slice_set xs i o)
sound_set library [] i o s h = tt
sound_set library (None ∷ xs) zero None s h = s
sound_set library (None ∷ xs) zero (Some a) s h = (h, s)
sound_set library (Some b ∷ xs) zero None s h = s.1
sound_set library (Some b ∷ xs) zero (Some a) s h = (h, s.1)
sound_set library (None ∷ xs) (suc i) o s h = sound_set library xs i o s h
sound_set library (Some b ∷ xs) (suc i) o s h = (s.0, sound_set library xs i o s.1 h)

-- ---- what workers return

pub tries_more : (library : Library) (xs : List Tried) (t : Tried) → AreSoundTries library xs → IsSound library (attempt t.attempt) → AreSoundTries library (xs ++ t ∷ [])
tries_more library xs t all is = let P = λ (u : Tried). IsSound library (attempt u.attempt) in All-append P xs (t ∷ []) all (All-cons P t [] is (All-nil P))

-- ---- the progress of the group

-- the last end is that of the last outcome
last_at : (v : Option Veto) (xs : List Outcome) (n : ℕ) (o : Outcome) → length xs ≡ suc n → slice_get xs n ≡ Some o → last_end v xs ≡ veto_in o
last_at v [] n o e h = cc
last_at v (x ∷ []) zero o e h = ap (λ (u : Option Outcome). end_or v u) h
  where
    end_or : Option Veto → Option Outcome → Option Veto
    end_or v None = v
    end_or v (Some u) = veto_in u
last_at v (x ∷ []) (suc n) o e h = cc
last_at v (x ∷ y ∷ ys) zero o e h = cc
last_at v (x ∷ y ∷ ys) (suc n) o e h = last_at (veto_in x) (y ∷ ys) n o (omega (arith, e)) h

last_is : (v : Option Veto) (xs : List Outcome) (o : Outcome) → slice_get xs (length xs - 1) ≡ Some o → last_end v xs ≡ veto_in o
last_is v [] o h = cc
last_is v (x ∷ xs) o h =
    let n : length (x ∷ xs) - 1 ≡ length xs = omega arith in
    last_at v (x ∷ xs) (length xs) o refl (ap (slice_get (x ∷ xs)) (sym n) ∙ h)

-- no firing stops a group
pub stopped_by_none : (stops : Bool) (xs : List Outcome) → length xs ≡ 0 → stopped_by stops xs ≡ None
stopped_by_none true [] e = refl
stopped_by_none false [] e = refl
stopped_by_none stops (x ∷ xs) e = cc

-- the veto at which a firing with this end stops the group, if it does
stopped_by_one : Bool → Option Veto → Option Veto
stopped_by_one true v = v
stopped_by_one false v = None

stopped_one : (stops : Bool) (o : Outcome) → stopped_by stops (o ∷ []) ≡ stopped_by_one stops (veto_in o)
unfolding stopped_by_one
stopped_one true o = refl
stopped_one false o = refl

-- the last firing stops a group, or none does
pub last_stops : (stops : Bool) (xs : List Outcome) (o : Outcome) → slice_get xs (length xs - 1) ≡ Some o → stopped_by stops xs ≡ stopped_by stops (o ∷ [])
last_stops true xs o h = last_is None xs o h
last_stops false xs o h = refl

-- the tasks that are left after some more
left_after : (tasks : List Task) (outcomes front : List Outcome) → drop (length (outcomes ++ front)) tasks ≡ drop (length front) (drop (length outcomes) tasks)
left_after tasks outcomes front = ap (λ n. drop n tasks) (length-append outcomes front) ∙ sym (drop-drop (length front) (length outcomes) tasks)

module _ {library : Library} {stops : Bool} {tasks : List Task} {first : Seeing} where
  pub so_far_begins : IsSoFar library stops tasks first first [] None
  so_far_begins = record { goes_on = GoesOn-same first; goes = λ _. record { by = λ more after g more_reads p. p }; stopped = λ r e. cc }

  pub so_far_starts : (outcomes : List Outcome) (end : Option Veto) → outcomes ≡ [] → end ≡ None → IsSoFar library stops tasks first first outcomes end
  so_far_starts outcomes end no_outcomes none = subst (λ os. IsSoFar library stops tasks first first os end) (sym no_outcomes)
      (subst (IsSoFar library stops tasks first first []) (sym none) so_far_begins)

  pub so_far_front : {now then : Seeing} (outcomes front : List Outcome) (attempts : List (Option Attempt)) → IsSoFar library stops tasks first now outcomes None → GoesOn now then
      → FrontIs stops (drop (length outcomes) tasks) attempts front now then → AreSound library (take (length front) attempts)
      → IsSoFar library stops tasks first then (outcomes ++ front) (stopped_by stops front)
  so_far_front {now} {then} outcomes front attempts s on front_is sound = record {
    goes_on = GoesOn-then s.goes_on on;
    goes = λ e.
        subst (λ fs. GroupCompletes library (fire_task library) stops tasks (written first) (drop (length (outcomes ++ front)) tasks) then.reads (written then) fs)
        (sym (map-append firing outcomes front))
        (subst (λ ts. GroupCompletes library (fire_task library) stops tasks (written first) ts then.reads (written then) (map firing outcomes ++ map firing front))
        (sym (left_after tasks outcomes front))
        (front_completes library stops tasks (drop (length outcomes) tasks) (written first) attempts front (s.goes refl) on front_is sound e));
    stopped = λ r e.
        subst (λ fs. FaithfulSiblings library (siblings (fire_task library) stops tasks) then.reads (written first) (written then) (record { firings = fs; vetoed_by = Some r }))
        (sym (map-append firing outcomes front))
        (front_stops library stops tasks (drop (length outcomes) tasks) (written first) attempts front (s.goes refl) on front_is sound r e);
  }

  -- the same at an index of the tasks
  pub so_far_settled : {now then : Seeing} (outcomes front all : List Outcome) (end after : Option Veto) (left : List Task) (attempts : List (Option Attempt))
      → end ≡ None → left ≡ drop (length outcomes) tasks
      → all ≡ outcomes ++ front → after ≡ stopped_by stops front → IsSoFar library stops tasks first now outcomes end → GoesOn now then
      → FrontIs stops left attempts front now then → AreSound library attempts
      → IsSoFar library stops tasks first then all after
  so_far_settled {now} {then} outcomes front all end after left attempts none left_is all_is after_is s on front_is sound =
      subst (λ os. IsSoFar library stops tasks first then os after) (sym all_is)
      (subst (IsSoFar library stops tasks first then (outcomes ++ front)) (sym after_is)
      (so_far_front outcomes front attempts (subst (IsSoFar library stops tasks first now outcomes) none s) on (subst (λ ts. FrontIs stops ts attempts front now then) left_is front_is)
      (sound_take library (length front) attempts sound)))

  -- the next task was run
  pub so_far_run : {now then : Seeing} (outcomes : List Outcome) (t : Task) (ts : List Task) (o : Outcome) → drop (length outcomes) tasks ≡ t ∷ ts → IsSoFar library stops tasks first now outcomes None
      → RunsFiring library (λ S. fire_task library S t) now then (firing o) → IsSoFar library stops tasks first then (outcomes ++ o ∷ []) (stopped_by stops (o ∷ []))
  unfolding stopped_by_one
  so_far_run {now} {then} outcomes t ts o here s r = record {
    goes_on = GoesOn-then s.goes_on r.goes_on;
    goes = λ e.
        subst (λ fs. GroupCompletes library (fire_task library) stops tasks (written first) (drop (length (outcomes ++ o ∷ [])) tasks) then.reads (written then) fs)
        (sym (map-append firing outcomes (o ∷ [])))
        (subst (λ us. GroupCompletes library (fire_task library) stops tasks (written first) us then.reads (written then) (map firing outcomes ++ firing o ∷ []))
        (sym (left_after tasks outcomes (o ∷ []) ∙ ap (drop 1) here))
        (group_more library (fire_task library) stops tasks (written first) (on stops (veto_in o) (sym (stopped_one stops o) ∙ e)) (grows r.goes_on) at_first r.faithful));
    stopped = λ n e.
        subst (λ fs. FaithfulSiblings library (siblings (fire_task library) stops tasks) then.reads (written first) (written then) (record { firings = fs; vetoed_by = Some n }))
        (sym (map-append firing outcomes (o ∷ [])))
        (halts stops n e at_first);
  }
    where
      at_first : GroupCompletes library (fire_task library) stops tasks (written first) (t ∷ ts) now.reads (written now) (map firing outcomes)
      at_first = subst (λ us. GroupCompletes library (fire_task library) stops tasks (written first) us now.reads (written now) (map firing outcomes)) here (s.goes refl)

      on : (b : Bool) (v : Option Veto) → stopped_by_one b v ≡ None → goes_on b v ≡ true
      on true None e = refl
      on true (Some r) e = cc
      on false v e = refl

      halts : (b : Bool) (n : Veto) → stopped_by b (o ∷ []) ≡ Some n → GroupCompletes library (fire_task library) b tasks (written first) (t ∷ ts) now.reads (written now) (map firing outcomes)
          → FaithfulSiblings library (siblings (fire_task library) b tasks) then.reads (written first) (written then) (record { firings = map firing outcomes ++ firing o ∷ []; vetoed_by = Some n })
      halts true n e c = group_vetoed library (fire_task library) tasks (written first) n e (grows r.goes_on) c r.faithful
      halts false n e c = cc

  -- the same at an index of the tasks
  pub so_far_ran : {now then : Seeing} (outcomes all : List Outcome) (end after : Option Veto) (t : Task) (ts : List Task) (o : Outcome) → end ≡ None
      → drop (length outcomes) tasks ≡ t ∷ ts → all ≡ outcomes ++ o ∷ []
      → after ≡ stopped_by stops (o ∷ []) → IsSoFar library stops tasks first now outcomes end → RunsFiring library (λ S. fire_task library S t) now then (firing o)
      → IsSoFar library stops tasks first then all after
  so_far_ran {now} {then} outcomes all end after t ts o none here all_is after_is s r =
      subst (λ os. IsSoFar library stops tasks first then os after) (sym all_is)
      (subst (IsSoFar library stops tasks first then (outcomes ++ o ∷ [])) (sym after_is) (so_far_run outcomes t ts o here (subst (IsSoFar library stops tasks first now outcomes) none s) r))

  pub so_far_ends : {now : Seeing} (outcomes : List Outcome) (end : Option Veto) → IsSoFar library stops tasks first now outcomes end → (end ≡ None → length tasks ≤ length outcomes)
      → RunsGroup library (siblings (fire_task library) stops tasks) first now (record { firings = map firing outcomes; vetoed_by = end })
  so_far_ends outcomes (Some r) s all = record { goes_on = s.goes_on; faithful = s.stopped r refl }
  so_far_ends {now} outcomes None s all = record {
    goes_on = s.goes_on;
    faithful = group_end library (fire_task library) stops tasks (written first)
        (subst (λ us. GroupCompletes library (fire_task library) stops tasks (written first) us now.reads (written now) (map firing outcomes)) (drop_of_length-le tasks (all refl)) (s.goes refl));
  }
