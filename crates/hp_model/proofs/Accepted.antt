-- A run of a group that is lawful for a class of states leads to the cells of the serial firing of the settled tasks.
use Rattle.std.proofs.Common.{arith, ◌≡◌, refl, ap, sym, ◌∙◌, subst, ℕ, zero, suc, ◌<◌, List, [], ◌∷◌, ◌++◌, length, length-append, take, Option, None, Some, Bool, true, false, ◌&&◌, ◌⊎◌, inl, inr}
use Rattle.std.proofs.lemmas.Bool.Decides.{nat_tests}
use Rattle.std.proofs.lemmas.List.{length-set}
use Rattle.std.specs.Prelude.{is_some, slice_get, slice_set, ◌==◌, nat_lt, cond, unwrap_or, replicate}
use Rattle.std.specs.Option.{option_flatten}
use Rattle.hp_model.specs.Values.{Veto}
use Rattle.hp_model.specs.Rules.{Library}
use Rattle.hp_model.specs.State.{State}
use Rattle.hp_model.specs.Tree.{Task}
use Rattle.hp_model.specs.Firing.{Firing, fire_task, siblings, Siblings, after_firing}
use Rattle.hp_model.specs.Cells.{Cells, cells, Changes, over, Holds}
use Rattle.hp_model.specs.Soundness.{Attempt}
use Rattle.hp_model.specs.Groups.{Machine, Event, draw, look, post, accept, rerun, opening, posted_at, is_enabled, settling, effect, step, run, layered, cells_now, MayGoOn}
use Rattle.hp_model.specs.Groups.{IfEnabled, IsLawfulEvent, IsLawful, IsAccepted}
use Rattle.hp_model.specs.States.{States, ordered_states, IsOneOf, IsSoundFor}
use Rattle.hp_model.specs.Accepting.{LeadsFor, IsLawfulEventFor, IsLawfulFor, IsAcceptedFor}
use Rattle.hp_model.proofs.Ordered.{fire_ordered}
use Rattle.hp_model.proofs.ForStates.{sound_as}

both_true : (a b : Bool) → (a && b) ≡ true → (a ≡ true) × (b ≡ true)
both_true true b h = (refl, h)
both_true false b h = cc

equal_numbers : (a b : ℕ) → (a == b) ≡ true → a ≡ b
equal_numbers a b h = grind (arith, nat_tests)

below_number : (a b : ℕ) → nat_lt a b ≡ true → a < b
below_number a b h = grind (arith, nat_tests)

-- ---- lists

get_set : (xs : List (Option Changes)) (i j : ℕ) (v w : Changes) → option_flatten (slice_get (slice_set xs i (Some v)) j) ≡ Some w
    → ((i ≡ j) × (v ≡ w)) ⊎ (option_flatten (slice_get xs j) ≡ Some w)
get_set [] i j v w h = inr h
get_set (x ∷ xs) zero zero v w h = inl (refl, cc)
get_set (x ∷ xs) zero (suc j) v w h = inr h
get_set (x ∷ xs) (suc i) zero v w h = inr h
get_set (x ∷ xs) (suc i) (suc j) v w h = elim (get_set xs i j v w h) [ inl e ↦ inl (ap suc e.0, e.1) | inr e ↦ inr e ]

some_at : {X : Type 0} (xs : List X) (i : ℕ) → i < length xs → (x : X) × (slice_get xs i ≡ Some x)
some_at [] i h = absurd (omega arith)
some_at (x ∷ xs) zero h = (x, refl)
some_at (x ∷ xs) (suc i) h = some_at xs i (omega arith)

take_next : {X : Type 0} (xs : List X) (i : ℕ) (x : X) → slice_get xs i ≡ Some x → (take (suc i) xs ≡ take i xs ++ x ∷ []) × (i < length xs)
take_next [] i x h = cc
take_next {X} (y ∷ ys) zero x h = (ap (λ (o : Option X). unwrap_or o y ∷ []) h, omega arith)
take_next (y ∷ ys) (suc i) x h = (ap (λ zs. y ∷ zs) (take_next ys i x h).0, let k : i < length ys = (take_next ys i x h).1 in omega arith)

layered-append : (base : Cells) (ls : List Changes) (l : Changes) → layered base (ls ++ l ∷ []) ≡ over (layered base ls) l
layered-append base [] l = refl
layered-append base (k ∷ ks) l = layered-append (over base k) ks l

-- ---- siblings with one more task

one_after : (stops : Bool) (v : Option Veto) (f : Firing) (rest : State → Siblings) → ((S : State) → (rest S).state ≡ S) → (after_firing stops v f rest).state ≡ f.state
one_after true (Some r) f rest h = refl
one_after true None f rest h = h f.state
one_after false v f rest h = h f.state

more_after : (v : Option Veto) (f : Firing) (rest longer : State → Siblings) (fire_one : State → State) → (after_firing true v f rest).vetoed_by ≡ None
    → ((S : State) → (rest S).vetoed_by ≡ None → (longer S).state ≡ fire_one (rest S).state)
    → (after_firing true v f longer).state ≡ fire_one (after_firing true v f rest).state
more_after (Some r) f rest longer fire_one h k = cc
more_after None f rest longer fire_one h k = k f.state h

siblings_next : (stops : Bool) (library : Library) (ts : List Task) (t : Task) (S : State) (k : ℕ)
    → (stops ≡ true → (siblings (fire_task library) true ts S).vetoed_by ≡ None)
    → (siblings (fire_task library) stops (ts ++ t ∷ []) S).state ≡ (fire_task library (siblings (fire_task library) stops ts S).state t).state
siblings_next stops library [] t S k h = one_after stops (fire_task library S t).vetoed_by (fire_task library S t) (siblings (fire_task library) stops []) (λ S'. refl)
siblings_next true library (u ∷ us) t S k h =
    more_after (fire_task library S u).vetoed_by (fire_task library S u) (siblings (fire_task library) true us) (siblings (fire_task library) true (us ++ t ∷ []))
    (λ S'. (fire_task library S' t).state) (h refl) (λ S' e. siblings_next true library us t S' k (λ _. e))
siblings_next false library (u ∷ us) t S k h = siblings_next false library us t (fire_task library S u).state k (λ bad. cc)

-- ---- the invariant of a run

module _ (states : States) (stops : Bool) (library : Library) (tasks : List Task) (attempts : ℕ → Attempt) (S : State) where
  -- the state after the first k tasks, one after the other
  abbrev pub state_after : ℕ → State
  state_after k = (siblings (fire_task library) stops (take k tasks) S).state

  -- the attempt of a posted task
  record Posted (i : ℕ) (layer : Changes) : Type 0 where
    sound : IsSoundFor states library (attempts i)
    of_task : slice_get tasks i ≡ Some (attempts i).task
    its_layer : (attempts i).layer ≡ layer

  record Stands (m : Machine) : Type 0 where
    as_many : length m.posted ≡ length tasks
    one : IsOneOf states library (state_after (length m.settled))
    now : cells_now m ≡ cells library (state_after (length m.settled))
    each_posted : (i : ℕ) (layer : Changes) → posted_at m i ≡ Some layer → Posted i layer

  may_go : (b : Bool) (k : ℕ) → MayGoOn b library tasks S k → b ≡ true → (siblings (fire_task library) true (take k tasks) S).vetoed_by ≡ None
  may_go true k h e = h
  may_go false k h e = cc

  next_state : (k : ℕ) (t : Task) → slice_get tasks k ≡ Some t → MayGoOn stops library tasks S k → state_after (suc k) ≡ (fire_task library (state_after k) t).state
  next_state k t h go =
      ap (λ ts. (siblings (fire_task library) stops ts S).state) (take_next tasks k t h).0 ∙ siblings_next stops library (take k tasks) t S k (may_go stops k go)

  -- one more layer is settled: that of the next task
  settled_more : (m : Machine) (k : ℕ) (layer : Changes) (t : Task) → k ≡ length m.settled → slice_get tasks k ≡ Some t → MayGoOn stops library tasks S k
      → cells library (fire_task library (state_after k) t).state ≡ over (cells_now m) layer → IsOneOf states library (fire_task library (state_after k) t).state
      → Stands m → Stands (settling m (Some layer))
  settled_more m k layer t e of_task go leads one inv =
      let longer : length (m.settled ++ layer ∷ []) ≡ suc k = length-append m.settled (layer ∷ []) ∙ omega arith in
      let there : state_after (suc k) ≡ (fire_task library (state_after k) t).state = next_state k t of_task go in
      let there' : state_after (length (m.settled ++ layer ∷ [])) ≡ (fire_task library (state_after k) t).state = ap state_after longer ∙ there in
      record {
        as_many = inv.as_many;
        one = subst (IsOneOf states library) (sym there') one;
        now = layered-append m.base m.settled layer ∙ sym leads ∙ ap (cells library) (sym there');
        each_posted = inv.each_posted;
      }

  accepted_one : (m : Machine) (i : ℕ) (o : Option Changes) → posted_at m i ≡ o → (i == length m.settled) ≡ true → is_some o ≡ true
      → Holds (cells_now m) (attempts i).reads → MayGoOn stops library tasks S i → Stands m → Stands (settling m o)
  accepted_one m i None is h p reads go inv = cc
  accepted_one m i (Some layer) is h p reads go inv =
      let e : i ≡ length m.settled = equal_numbers i (length m.settled) h in
      let posted = inv.each_posted i layer is in
      let here : cells_now m ≡ cells library (state_after i) = inv.now ∙ ap (λ k. cells library (state_after k)) (sym e) in
      let gives = posted.sound.from (state_after i) (subst (λ k. IsOneOf states library (state_after k)) (sym e) inv.one) (subst (λ b. Holds b (attempts i).reads) here reads) in
      settled_more m i layer (attempts i).task e posted.of_task go
      (gives.reaches ∙ ap (λ (b : Cells). over b (attempts i).layer) (sym here) ∙ ap (over (cells_now m)) posted.its_layer) gives.one inv

  rerun_one : (m : Machine) (i : ℕ) (layer : Changes) → (i == length m.settled) ≡ true → nat_lt i (length m.posted) ≡ true
      → ((t : Task) → slice_get tasks i ≡ Some t → LeadsFor states library t (cells_now m) layer) → MayGoOn stops library tasks S i → Stands m → Stands (settling m (Some layer))
  rerun_one m i layer h low leads go inv =
      let e : i ≡ length m.settled = equal_numbers i (length m.settled) h in
      let few : i < length m.posted = below_number i (length m.posted) low in
      let few' : i < length tasks = subst (λ n. i < n) inv.as_many few in
      let found = some_at tasks i few' in
      let here : cells library (state_after i) ≡ cells_now m = ap (λ k. cells library (state_after k)) e ∙ sym inv.now in
      let gives = leads found.0 found.1 (state_after i) (subst (λ k. IsOneOf states library (state_after k)) (sym e) inv.one) here in
      settled_more m i layer found.0 e found.1 go gives.0 gives.1 inv

  step_stands : (e : Event) (m : Machine) (b : Bool) → is_enabled m e ≡ b → IfEnabled b (IsLawfulEventFor states stops library tasks attempts S m e) → Stands m → Stands (cond b (effect m e) m)
  step_stands e m false is h inv = inv
  step_stands (draw w) m true is h inv = record { as_many = inv.as_many; one = inv.one; now = inv.now; each_posted = inv.each_posted }
  step_stands (look w i predecessors) m true is h inv = record { as_many = inv.as_many; one = inv.one; now = inv.now; each_posted = inv.each_posted }
  step_stands (post w i layer) m true is h inv =
      record {
        as_many = length-set m.posted i (Some layer) ∙ inv.as_many;
        one = inv.one;
        now = inv.now;
        each_posted = λ j l p. elim (get_set m.posted i j layer l p) [
          | inl e ↦ subst (λ n. Posted n l) e.0 (record { sound = h.0; of_task = h.1; its_layer = h.2 ∙ e.1 })
          | inr q ↦ inv.each_posted j l q
        ];
      }
  step_stands (accept i) m true is h inv =
      let both = both_true (i == length m.settled) (is_some (posted_at m i)) is in
      accepted_one m i (posted_at m i) refl both.0 both.1 h.0 h.1 inv
  step_stands (rerun i layer) m true is h inv =
      let both = both_true (i == length m.settled) (nat_lt i (length m.posted)) is in
      rerun_one m i layer both.0 both.1 h.1 h.2 inv

  run_stands : (es : List Event) (m : Machine) → IsLawfulFor states stops library tasks attempts S m es → Stands m → Stands (run m es)
  run_stands [] m h inv = inv
  run_stands (e ∷ es) m h inv = run_stands es (step m e) h.1 (step_stands e m (is_enabled m e) refl h.0 inv)

  length-nones : (n : ℕ) → length (replicate {A = Option Changes} n None) ≡ n
  length-nones zero = refl
  length-nones (suc n) = ap suc (length-nones n)

  none_posted : (n i : ℕ) (layer : Changes) → option_flatten (slice_get (replicate {A = Option Changes} n None) i) ≡ Some layer → ⊥
  none_posted zero i layer h = cc
  none_posted (suc n) zero layer h = cc
  none_posted (suc n) (suc i) layer h = none_posted n i layer h

  accepted_from : (es : List Event) → IsOneOf states library S → IsLawfulFor states stops library tasks attempts S (opening (cells library S) (length tasks)) es
      → Stands (run (opening (cells library S) (length tasks)) es)
  accepted_from es one h =
      run_stands es (opening (cells library S) (length tasks)) h
      (record {
        as_many = length-nones (length tasks);
        one = one;
        now = refl;
        each_posted = λ i layer p. absurd (none_posted (length tasks) i layer p);
      })

pub accepted_for : (states : States) → IsAcceptedFor states
accepted_for states stops library tasks attempts S es one h = let stands = accepted_from states stops library tasks attempts S es one h in (stands.now, stands.one)

-- ---- ordered states

if_lawful : (b : Bool) (P Q : Type 0) → (P → Q) → IfEnabled b P → IfEnabled b Q
if_lawful true P Q then h = then h
if_lawful false P Q then h = tt

module _ (stops : Bool) (library : Library) (tasks : List Task) (attempts : ℕ → Attempt) (S : State) where
  event_for : (m : Machine) (e : Event) → IsLawfulEvent stops library tasks attempts S m e → IsLawfulEventFor ordered_states stops library tasks attempts S m e
  event_for m (draw w) h = tt
  event_for m (look w i predecessors) h = tt
  event_for m (post w i layer) h = (sound_as h.0, h.1, h.2, h.3)
  event_for m (accept i) h = h
  event_for m (rerun i layer) h = (h.0, (λ t of_task S' ordered here. (h.1 t of_task S' ordered here, fire_ordered library S' t ordered)), h.2)

  run_for : (m : Machine) (es : List Event) → IsLawful stops library tasks attempts S m es → IsLawfulFor ordered_states stops library tasks attempts S m es
  run_for m [] h = tt
  run_for m (e ∷ es) h = (if_lawful (is_enabled m e) _ _ (event_for m e) h.0, run_for (step m e) es h.1)

pub accepted : IsAccepted
accepted stops library tasks attempts S es ordered h =
    (accepted_for ordered_states stops library tasks attempts S es ordered (run_for stops library tasks attempts S (opening (cells library S) (length tasks)) es h)).0
