-- Whether two events are the same, and whether the same is known, as tests that are true exactly where the two are equal.
use Rattle.std.specs.Prelude.{◌≡◌, refl, Bool, true, false, ◌&&◌, Option, Some, None}
use Rattle.std.proofs.Common.{sym, ap, ◌∙◌}
use mathlib.Core.Bool.{true≢false}
use lib.Pointwise.{pointwise, pointwise_decides}
use Rattle.std.specs.Bool.{Decides}
use Rattle.std.specs.Cmp.{IsEquivalence, decided}
use Rattle.hp_model.specs.Occurrences.{Occurrence}
use Rattle.hp_model.specs.Events.{Event, pattern_event, or_event, seq_event, closure_event}
use Rattle.hp_model.specs.Knowledge.{Knowledge, nothing_known, of_either, of_sequence, of_closure}
use Rattle.hp_value.specs.Same.{occurrence_same, occurrence_decides}
use Rattle.hp_event.specs.Same.{pattern_same, pattern_decides}
use Rattle.hp_detect.specs.DetectorState.{DetectorState}

abbrev pub event_same : Event → Event → Bool
event_same (pattern_event p) (pattern_event q) = pattern_same p q
event_same (or_event a b) (or_event c d) = event_same a c && event_same b d
event_same (seq_event a b) (seq_event c d) = event_same a c && event_same b d
event_same (closure_event a t) (closure_event b u) = event_same a b && event_same t u
event_same d e = false

abbrev pub unfinished_same : Option Occurrence → Option Occurrence → Bool
unfinished_same None None = true
unfinished_same (Some o) (Some p) = occurrence_same o p
unfinished_same u v = false

abbrev pub knowledge_same : Knowledge → Knowledge → Bool
knowledge_same nothing_known nothing_known = true
knowledge_same (of_either k l) (of_either m n) = knowledge_same k m && knowledge_same l n
knowledge_same (of_sequence k l w) (of_sequence m n x) = knowledge_same k m && (knowledge_same l n && pointwise occurrence_same w x)
knowledge_same (of_closure k l u) (of_closure m n v) = knowledge_same k m && (knowledge_same l n && unfinished_same u v)
knowledge_same k l = false

abbrev pub detector_same : DetectorState → DetectorState → Bool
detector_same d e = event_same d.event e.event && knowledge_same d.known e.known

-- ---- true exactly where the two are equal

both_decide : {P Q R : Type 0} (a b : Bool) → Decides a P → Decides b Q → (P → Q → R) → (R → P × Q) → Decides (a && b) R
both_decide true b p q make split = (λ e. make (p.0 refl) (q.0 e), λ r. q.1 (split r).1)
both_decide false b p q make split = (λ e. absurd (true≢false (sym e)), λ r. p.1 (split r).0)

pub event_decides : (d e : Event) → Decides (event_same d e) (d ≡ e)
event_decides (pattern_event p) (pattern_event q) = (λ e. ap pattern_event ((pattern_decides p q).0 e), λ e. (pattern_decides p q).1 (cc))
event_decides (or_event a b) (or_event c d) = both_decide _ _ (event_decides a c) (event_decides b d) (λ e f. cc) (λ e. (cc, cc))
event_decides (seq_event a b) (seq_event c d) = both_decide _ _ (event_decides a c) (event_decides b d) (λ e f. cc) (λ e. (cc, cc))
event_decides (closure_event a t) (closure_event b u) = both_decide _ _ (event_decides a b) (event_decides t u) (λ e f. cc) (λ e. (cc, cc))
event_decides d e = (λ h. cc, λ h. cc)

unfinished_decides : (u v : Option Occurrence) → Decides (unfinished_same u v) (u ≡ v)
unfinished_decides None None = (λ e. refl, λ e. refl)
unfinished_decides (Some o) (Some p) = (λ e. ap Some ((occurrence_decides o p).0 e), λ e. (occurrence_decides o p).1 (cc))
unfinished_decides u v = (λ e. cc, λ e. cc)

pub knowledge_decides : (k l : Knowledge) → Decides (knowledge_same k l) (k ≡ l)
knowledge_decides nothing_known nothing_known = (λ e. refl, λ e. refl)
knowledge_decides (of_either k l) (of_either m n) = both_decide _ _ (knowledge_decides k m) (knowledge_decides l n) (λ e f. cc) (λ e. (cc, cc))
knowledge_decides (of_sequence k l w) (of_sequence m n x) =
    both_decide _ _ (knowledge_decides k m)
    (both_decide _ _ (knowledge_decides l n) (pointwise_decides occurrence_decides w x) (λ e f. (e, f)) (λ p. p))
    (λ e f. cc) (λ e. (cc, (cc, cc)))
knowledge_decides (of_closure k l u) (of_closure m n v) =
    both_decide _ _ (knowledge_decides k m)
    (both_decide _ _ (knowledge_decides l n) (unfinished_decides u v) (λ e f. (e, f)) (λ p. p))
    (λ e f. cc) (λ e. (cc, (cc, cc)))
knowledge_decides k l = (λ e. cc, λ e. cc)

pub detector_decides : (d e : DetectorState) → Decides (detector_same d e) (d ≡ e)
detector_decides d e =
    let make : Event → Knowledge → DetectorState = λ v k. record { event = v; known = k } in
    both_decide _ _ (event_decides d.event e.event) (knowledge_decides d.known e.known)
    (λ f g. ap (λ v. make v d.known) f ∙ ap (make e.event) g) (λ f. (ap (λ x. x.event) f, ap (λ x. x.known) f))

-- ---- equivalences

pub event_equiv : IsEquivalence event_same
event_equiv = decided event_same event_decides

pub waiting_equiv : IsEquivalence (pointwise occurrence_same)
waiting_equiv = decided (pointwise occurrence_same) (pointwise_decides occurrence_decides)

pub knowledge_equiv : IsEquivalence knowledge_same
knowledge_equiv = decided knowledge_same knowledge_decides

pub detector_equiv : IsEquivalence detector_same
detector_equiv = decided detector_same detector_decides
