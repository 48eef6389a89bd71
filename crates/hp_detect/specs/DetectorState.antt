-- What a detector is in contracts.
use Rattle.std.specs.Prelude.{◌≡◌, refl, List, [], ◌∷◌, Option}
use Rattle.std.specs.Coded.{Coded, code_by, coded×}
use Rattle.hp_model.specs.Occurrences.{Primitive, History, Occurrence}
use Rattle.hp_model.specs.Events.{Event, occurrence_of}
use Rattle.hp_model.specs.Knowledge.{Knowledge, knowledge}
use Rattle.hp_detect.specs.Codes.{event_code, knowledge_code}

pub record DetectorState : Type 0 where
  pub event : Event
  pub known : Knowledge

abbrev pub detector_code : Coded DetectorState
detector_code =
    code_by (Event × Knowledge) (coded× event_code knowledge_code) (λ d. (d.event, d.known)) (λ p. record { event = p.0; known = p.1 }) (λ _. refl)

-- it knows what matters of a past
abbrev pub Knows : DetectorState → History → Type 0
Knows d past = d.known ≡ knowledge d.event past

-- the event's occurrence at each place of a list that follows a past
abbrev pub occurrences_along : Event → History → List Primitive → List (Option Occurrence)
occurrences_along event past [] = []
occurrences_along event past (p ∷ ps) = occurrence_of event (p ∷ past) ∷ occurrences_along event (p ∷ past) ps
