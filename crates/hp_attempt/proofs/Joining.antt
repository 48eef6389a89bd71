-- A front and the siblings after it, for the layers above.
use Rattle.std.proofs.Common.{◌≡◌, refl, sym, ap, ◌∙◌, subst, Bool, true, false, List, [], ◌∷◌, ◌++◌, append_assoc, length, take, drop, map, Option, Some, None}
use Rattle.std.proofs.lemmas.List.{map-append, take-append-drop}
use Rattle.hp_model.specs.Values.{Veto}
use Rattle.hp_model.specs.Rules.{Library}
use Rattle.hp_model.specs.State.{State}
use Rattle.hp_model.specs.Tree.{Task}
use Rattle.hp_model.specs.Cells.{Changes, over, Read}
use Rattle.hp_model.specs.Firing.{Firing, Fire, Siblings, after_firing, siblings, fire_task}
use Rattle.hp_model.specs.Soundness.{FiringAnswer, firing_answer, LeadsTo}
use Rattle.hp_model.specs.Answers.{SiblingsAnswer, siblings_answer, FaithfulSiblings}
use Rattle.hp_model.proofs.Faithful.{Grows, Grows-then, held_before}
use Rattle.hp_model.proofs.FaithfulFirings.{GroupCompletes}
use Rattle.hp_view.specs.Seeing.{Seeing, GoesOn, written}
use Rattle.hp_attempt.specs.declared.outcome.Outcome.{Outcome}
use Rattle.hp_attempt.specs.declared.outcome.Attempt.{Attempt}
use Rattle.hp_attempt.specs.Mapped.{firing}
use Rattle.hp_attempt.specs.Fronts.{AreSound, stopped_by, FrontIs}

-- ---- siblings in two parts

-- siblings after others: none where these were stopped
abbrev pub and_then : Option Veto → Siblings → (State → Siblings) → Siblings
and_then (Some r) g rest = g
and_then None g rest = let more = rest g.state in record { firings = g.firings ++ more.firings; state = more.state; vetoed_by = more.vetoed_by }

-- one firing in front
front_of : Firing → Siblings → Siblings
front_of f g = record { firings = f ∷ g.firings; state = g.state; vetoed_by = g.vetoed_by }

and_then-front : (f : Firing) (v : Option Veto) (g : Siblings) (rest : State → Siblings) → front_of f (and_then v g rest) ≡ and_then v (front_of f g) rest
unfolding front_of
and_then-front f (Some r) g rest = refl
and_then-front f None g rest = refl

siblings-append : (fire : Fire) (stops : Bool) (xs ys : List Task) (S : State)
    → siblings fire stops (xs ++ ys) S ≡ and_then (siblings fire stops xs S).vetoed_by (siblings fire stops xs S) (siblings fire stops ys)
unfolding front_of
siblings-append fire stops [] ys S = refl
siblings-append fire stops (t ∷ xs) ys S = by stops (fire S t).vetoed_by (siblings-append fire stops xs ys (fire S t).state)
  where
    by : (b : Bool) (v : Option Veto)
        → siblings fire stops (xs ++ ys) (fire S t).state ≡ and_then (siblings fire stops xs (fire S t).state).vetoed_by (siblings fire stops xs (fire S t).state) (siblings fire stops ys)
        → after_firing b v (fire S t) (siblings fire stops (xs ++ ys))
        ≡ and_then (after_firing b v (fire S t) (siblings fire stops xs)).vetoed_by (after_firing b v (fire S t) (siblings fire stops xs)) (siblings fire stops ys)
    by true (Some r) rest = refl
    by true None rest = ap (front_of (fire S t)) rest ∙ and_then-front (fire S t) (siblings fire stops xs (fire S t).state).vetoed_by (siblings fire stops xs (fire S t).state) (siblings fire stops ys)
    by false v rest = ap (front_of (fire S t)) rest ∙ and_then-front (fire S t) (siblings fire stops xs (fire S t).state).vetoed_by (siblings fire stops xs (fire S t).state) (siblings fire stops ys)

-- the first part wasn't stopped, and the second follows
pub siblings_then : (library : Library) (fire : Fire) (stops : Bool) (xs ys : List Task) {reads more : List Read} {w0 w1 w2 : Changes} {g h : SiblingsAnswer} → g.vetoed_by ≡ None → Grows reads more
    → FaithfulSiblings library (siblings fire stops xs) reads w0 w1 g → FaithfulSiblings library (siblings fire stops ys) more w1 w2 h
    → FaithfulSiblings library (siblings fire stops (xs ++ ys)) more w0 w2 (record { firings = g.firings ++ h.firings; vetoed_by = h.vetoed_by })
siblings_then library fire stops xs ys {reads} {more} {w0} {w1} {w2} {g} {h} on grows p q = record {
  from = λ base held S ordered is.
      let first = p.from base (held_before grows base held) S ordered is in
      let xs_done = siblings fire stops xs S in
      let rest = q.from base held xs_done.state first.ordered first.reaches in
      let went_on : xs_done.vetoed_by ≡ None = ap (λ (x : SiblingsAnswer). x.vetoed_by) first.answers ∙ on in
      let all : siblings fire stops (xs ++ ys) S ≡ and_then None xs_done (siblings fire stops ys) = siblings-append fire stops xs ys S
      ∙ ap (λ v. and_then v xs_done (siblings fire stops ys)) went_on in
      subst (λ (s : Siblings). LeadsTo library (siblings_answer s) s.state (record { firings = g.firings ++ h.firings; vetoed_by = h.vetoed_by }) (over base w2)) (sym all)
      (record {
        answers = λ i. record {
          firings = (map-append firing_answer xs_done.firings (siblings fire stops ys xs_done.state).firings ∙ (λ j. (first.answers j).firings ++ (rest.answers j).firings)) i;
          vetoed_by = (rest.answers i).vetoed_by;
        };
        reaches = rest.reaches;
        ordered = rest.ordered;
      });
}

-- the first part was stopped, and the second never starts
pub siblings_stopped : (library : Library) (fire : Fire) (stops : Bool) (xs ys : List Task) {reads : List Read} {w0 w1 : Changes} {g : SiblingsAnswer} (r : Veto) → g.vetoed_by ≡ Some r
    → FaithfulSiblings library (siblings fire stops xs) reads w0 w1 g → FaithfulSiblings library (siblings fire stops (xs ++ ys)) reads w0 w1 g
siblings_stopped library fire stops xs ys {reads} {w0} {w1} {g} r stopped p = record {
  from = λ base held S ordered is.
      let first = p.from base held S ordered is in
      let xs_done = siblings fire stops xs S in
      let halted : xs_done.vetoed_by ≡ Some r = ap (λ (x : SiblingsAnswer). x.vetoed_by) first.answers ∙ stopped in
      let all : siblings fire stops (xs ++ ys) S ≡ xs_done = siblings-append fire stops xs ys S ∙ ap (λ v. and_then v xs_done (siblings fire stops ys)) halted in
      subst (λ (s : Siblings). LeadsTo library (siblings_answer s) s.state g (over base w1)) (sym all) first;
}

-- ---- a front in a group

module _ (library : Library) (stops : Bool) (whole left : List Task) (w0 : Changes) (attempts : List (Option Attempt)) (outcomes : List Outcome) {old new : Seeing} {so_far : List FiringAnswer}
    (c : GroupCompletes library (fire_task library) stops whole w0 left old.reads (written old) so_far) (on : GoesOn old new) (front : FrontIs stops left attempts outcomes old new)
    (sound : AreSound library (take (length outcomes) attempts)) where
  parts : take (length outcomes) left ++ drop (length outcomes) left ≡ left
  parts = take-append-drop (length outcomes) left

  grows : Grows old.reads new.reads
  grows = record { others = on.reads.0; are = on.reads.1 }

  -- after a front that wasn't stopped, the group goes on with the tasks that are left
  pub front_completes : stopped_by stops outcomes ≡ None → GroupCompletes library (fire_task library) stops whole w0 (drop (length outcomes) left) new.reads
      (written new) (so_far ++ map firing outcomes)
  front_completes goes = record {
    by = λ more after g grows' q.
        subst (λ fs. FaithfulSiblings library (siblings (fire_task library) stops whole) more w0 after (record { firings = fs; vetoed_by = g.vetoed_by }))
        (sym (append_assoc so_far (map firing outcomes) g.firings))
        (c.by more after (record { firings = map firing outcomes ++ g.firings; vetoed_by = g.vetoed_by }) (Grows-then grows grows')
        (subst (λ ts. FaithfulSiblings library (siblings (fire_task library) stops ts) more (written old) after (record { firings = map firing outcomes ++ g.firings; vetoed_by = g.vetoed_by })) parts
        (siblings_then library (fire_task library) stops (take (length outcomes) left) (drop (length outcomes) left) goes grows' (front.faithful library sound) q)));
  }

  -- a front that was stopped ends the group
  pub front_stops : (r : Veto) → stopped_by stops outcomes ≡ Some r
      → FaithfulSiblings library (siblings (fire_task library) stops whole) new.reads w0 (written new) (record { firings = so_far ++ map firing outcomes; vetoed_by = Some r })
  front_stops r stopped =
      c.by new.reads (written new) (record { firings = map firing outcomes; vetoed_by = Some r }) grows
      (subst (λ v. FaithfulSiblings library (siblings (fire_task library) stops left) new.reads (written old) (written new) (record { firings = map firing outcomes; vetoed_by = v })) stopped
      (subst (λ ts. FaithfulSiblings library (siblings (fire_task library) stops ts) new.reads (written old) (written new)
      (record { firings = map firing outcomes; vetoed_by = stopped_by stops outcomes })) parts
      (siblings_stopped library (fire_task library) stops (take (length outcomes) left) (drop (length outcomes) left) r stopped (front.faithful library sound))))
