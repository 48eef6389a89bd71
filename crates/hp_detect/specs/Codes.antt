-- Codes of events and knowledge: how they are stored.
use Rattle.std.proofs.Common.{◌≡◌, refl, ap, ap₂, ◌∙◌}
use Rattle.std.specs.Coded.{Coded, coded_list, coded_option, codes}
use base.Stored.{Gv, gnil, gnum, gcons}
use Rattle.hp_model.specs.Occurrences.{Occurrence}
use Rattle.hp_model.specs.Events.{Pattern, Event, pattern_event, or_event, seq_event, closure_event}
use Rattle.hp_model.specs.Knowledge.{Knowledge, nothing_known, of_either, of_sequence, of_closure}

pub pattern_code : Coded Pattern
pattern_code = hlevel codes

pub occurrence_code : Coded Occurrence
occurrence_code = hlevel codes

event_stored : Event → Gv
event_stored (pattern_event p) = gcons (gnum 0) (pattern_code.code p)
event_stored (or_event a b) = gcons (gnum 1) (gcons (event_stored a) (event_stored b))
event_stored (seq_event a b) = gcons (gnum 2) (gcons (event_stored a) (event_stored b))
event_stored (closure_event a t) = gcons (gnum 3) (gcons (event_stored a) (event_stored t))

one_event : (d e : Event) → event_stored d ≡ event_stored e → d ≡ e
unfolding event_stored
one_event (pattern_event p) (pattern_event q) h = ap pattern_event (pattern_code.inj p q (cc))
one_event (or_event a b) (or_event a' b') h = ap₂ or_event (one_event a a' (cc)) (one_event b b' (cc))
one_event (seq_event a b) (seq_event a' b') h = ap₂ seq_event (one_event a a' (cc)) (one_event b b' (cc))
one_event (closure_event a t) (closure_event a' t') h = ap₂ closure_event (one_event a a' (cc)) (one_event t t' (cc))
one_event d e h = cc

pub event_code : Coded Event
event_code = record { code = event_stored; inj = one_event }

knowledge_stored : Knowledge → Gv
knowledge_stored nothing_known = gnil
knowledge_stored (of_either k l) = gcons (gnum 0) (gcons (knowledge_stored k) (knowledge_stored l))
knowledge_stored (of_sequence k l w) = gcons (gnum 1) (gcons ((coded_list occurrence_code).code w) (gcons (knowledge_stored k) (knowledge_stored l)))
knowledge_stored (of_closure k l u) = gcons (gnum 2) (gcons ((coded_option occurrence_code).code u) (gcons (knowledge_stored k) (knowledge_stored l)))

one_knowledge : (k l : Knowledge) → knowledge_stored k ≡ knowledge_stored l → k ≡ l
unfolding knowledge_stored
one_knowledge nothing_known nothing_known h = refl
one_knowledge (of_either k l) (of_either k' l') h = ap₂ of_either (one_knowledge k k' (cc)) (one_knowledge l l' (cc))
one_knowledge (of_sequence k l w) (of_sequence k' l' w') h =
    ap₂ (λ a b. of_sequence a b w) (one_knowledge k k' (cc)) (one_knowledge l l' (cc)) ∙ ap (of_sequence k' l') ((coded_list occurrence_code).inj w w' (cc))
one_knowledge (of_closure k l u) (of_closure k' l' u') h =
    ap₂ (λ a b. of_closure a b u) (one_knowledge k k' (cc)) (one_knowledge l l' (cc)) ∙ ap (of_closure k' l') ((coded_option occurrence_code).inj u u' (cc))
one_knowledge k l h = cc

pub knowledge_code : Coded Knowledge
knowledge_code = record { code = knowledge_stored; inj = one_knowledge }
