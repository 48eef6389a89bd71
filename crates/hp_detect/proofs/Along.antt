-- A detector along a list.
use Rattle.std.proofs.Common.{◌≡◌, refl, sym, ap, ap₂, subst, ◌∙◌, ℕ, ◌+◌, ◌<◌, suc, List, [], ◌∷◌, ◌++◌, length, take, drop, get_or, map, append_assoc, arith, drop-cons, Option}
use Rattle.std.specs.Prelude.{option_map}
use Rattle.std.proofs.lemmas.List.{take_more, map-append}
use Rattle.hp_model.specs.Occurrences.{Primitive, History}
use Rattle.hp_model.specs.Events.{Event, occurrence_of}
use Rattle.hp_value.specs.declared.occurrence.Primitive.{Primitive as Signalled}
use Rattle.hp_value.specs.declared.occurrence.Occurrence.{Occurrence}
use Rattle.hp_value.specs.Mapped.{primitive, occurrence}
use Rattle.hp_detect.specs.DetectorState.{DetectorState, Knows, occurrences_along}

-- the past followed by these
abbrev pub grown : History → List Primitive → History
grown past [] = past
grown past (p ∷ ps) = grown (p ∷ past) ps

grown-push : (past : History) (ps : List Primitive) (p : Primitive) → grown past (ps ++ p ∷ []) ≡ p ∷ grown past ps
grown-push past [] p = refl
grown-push past (q ∷ ps) p = grown-push (q ∷ past) ps p

-- the past of the first i items of a list
abbrev pub past_at : List Signalled → ℕ → History
past_at all i = grown [] (map primitive (take i all))

-- the detector d knows the first i items of the list, and the answers so far continue as the whole list's answers
pub record GoesAlong (e : Event) (all : List Signalled) (i : ℕ) (d : DetectorState) (answered : List (Option Occurrence)) : Type 0 where
  pub event : d.event ≡ e
  pub knows : Knows d (past_at all i)
  pub answers : map (option_map occurrence) answered ++ occurrences_along e (past_at all i) (map primitive (drop i all)) ≡ occurrences_along e [] (map primitive all)

past_more : (all : List Signalled) (i : ℕ) (x : Signalled) → i < length all → x ≡ get_or all i x → past_at all (i + 1) ≡ primitive x ∷ past_at all i
past_more all i x low is =
    ap (λ xs. grown [] (map primitive xs)) (take_more all i x low ∙ ap (λ y. take i all ++ y ∷ []) (sym is))
    ∙ ap (grown []) (map-append primitive (take i all) (x ∷ [])) ∙ grown-push [] (map primitive (take i all)) (primitive x)

rest_at : (all : List Signalled) (i : ℕ) (x : Signalled) → i < length all → x ≡ get_or all i x → drop i all ≡ x ∷ drop (i + 1) all
rest_at all i x low is =
    let e : suc i ≡ i + 1 = omega arith in
    drop-cons all i x low ∙ ap (λ y. y ∷ drop (suc i) all) (sym is) ∙ ap (λ n. x ∷ drop n all) e

pub along_more : (e : Event) (all : List Signalled) (i : ℕ) (x : Signalled) (d n : DetectorState) (os new : List (Option Occurrence)) (o : Option Occurrence)
    → i < length all → x ≡ get_or all i x → GoesAlong e all i d os → n.event ≡ d.event
    → ((h : History) → Knows d h → option_map occurrence o ≡ occurrence_of d.event (primitive x ∷ h))
    → ((h : History) → Knows d h → Knows n (primitive x ∷ h)) → new ≡ os ++ o ∷ [] → GoesAlong e all (i + 1) n new
along_more e all i x d n os new o low is before same answer learns more =
    let past = past_at all i in
    let here : past_at all (i + 1) ≡ primitive x ∷ past = past_more all i x low is in
    record {
      event = same ∙ before.event;
      knows = subst (Knows n) (sym here) (learns past before.knows);
      answers =
          ap₂ (λ xs h. map (option_map occurrence) xs ++ occurrences_along e h (map primitive (drop (i + 1) all))) more here
          ∙ ap (λ ys. ys ++ occurrences_along e (primitive x ∷ past) (map primitive (drop (i + 1) all))) (map-append (option_map occurrence) os (o ∷ []))
          ∙ append_assoc (map (option_map occurrence) os) (option_map occurrence o ∷ []) (occurrences_along e (primitive x ∷ past) (map primitive (drop (i + 1) all)))
          ∙ ap (λ a. map (option_map occurrence) os ++ (a ∷ occurrences_along e (primitive x ∷ past) (map primitive (drop (i + 1) all))))
          (answer past before.knows ∙ ap (λ v. occurrence_of v (primitive x ∷ past)) before.event)
          ∙ ap (λ xs. map (option_map occurrence) os ++ occurrences_along e past (map primitive xs)) (sym (rest_at all i x low is))
          ∙ before.answers;
    }
