-- One step of what is known: what occurs at the next place, and what is known then.
use Rattle.std.specs.Prelude.{Bool, true, false, List, drop, ◌++◌, Option, Some, None, is_some, slice_get, option_to_list, if◌then◌else◌, ◌+◌}
use Rattle.std.specs.Option.{option_or}
use Rattle.hp_model.specs.Occurrences.{Primitive, Occurrence, primitive_occurrence, capped}
use Rattle.hp_model.specs.Events.{Pattern, Event, pattern_event, or_event, seq_event, closure_event, matches, joined, closed}
use Rattle.hp_model.specs.Knowledge.{Knowledge, of_either, of_sequence, of_closure}

-- what one step gives: what occurs, and what is known then
abbrev pub Stepped : Type 0
Stepped = Option Occurrence × Knowledge

-- what a closure has gathered after a step at which its end occurred or not, and its body occurred or not
abbrev pub gathered_after : (ended : Bool) → (body gathered_before : Option Occurrence) → Option Occurrence
gathered_after true o u = None
gathered_after false None u = u
gathered_after false (Some o) None = Some (record { parts = o.parts; count = capped o.count })
gathered_after false (Some o) (Some u) = Some (record { parts = o.parts; count = capped (u.count + o.count) })

-- the steps of a pattern, and those of a composite event from the steps of its arms
abbrev pub pattern_step : Pattern → Knowledge → Primitive → Stepped
pattern_step pattern k p = (if matches pattern p then Some (primitive_occurrence p) else None, k)

abbrev pub either_step : (left right : Stepped) → Stepped
either_step r s = (option_or r.0 s.0, of_either r.1 s.1)

abbrev pub sequence_step : (waiting : List Occurrence) → (first second : Stepped) → Stepped
sequence_step waiting r s =
    (joined (slice_get waiting 0) s.0, of_sequence r.1 s.1 ((if is_some s.0 then drop 1 waiting else waiting) ++ option_to_list r.0))

abbrev pub closure_step : (unfinished : Option Occurrence) → (body end : Stepped) → Stepped
closure_step unfinished r s = (closed unfinished s.0, of_closure r.1 s.1 (gathered_after (is_some s.0) r.0 unfinished))

abbrev pub stepped : Event → Knowledge → Primitive → Stepped
stepped (pattern_event pattern) k p = pattern_step pattern k p
stepped (or_event a b) (of_either k l) p = either_step (stepped a k p) (stepped b l p)
stepped (seq_event a b) (of_sequence k l waiting) p = sequence_step waiting (stepped a k p) (stepped b l p)
stepped (closure_event a t) (of_closure k l unfinished) p = closure_step unfinished (stepped a k p) (stepped t l p)
stepped e k p = (None, k)
