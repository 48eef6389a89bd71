-- What the crate's types stand for in the model: a function for each.
use Rattle.std.specs.Prelude.{[], Option, Some, None, option_map}
use Rattle.std.specs.declared.sync.Arc.{Arc}
use Rattle.std.specs.declared.alloc.Global.{Global}
use Rattle.hp_model.specs.Events as M
use Rattle.hp_model.specs.Knowledge as K
use Rattle.hp_event.specs.Mapped.{pattern}
use Rattle.hp_value.specs.Mapped.{occurrence}
use Rattle.hp_detect.specs.declared.event.EventExpr.{EventExpr}
use Rattle.hp_detect.specs.declared.event.EventExpr.TheVariants.{One, Or', Seq', Closure'}
use Rattle.hp_detect.specs.Stepped as S
use Rattle.hp_detect.specs.declared.known.Known.{Known}
use Rattle.hp_detect.specs.declared.known.Known.TheVariants.{Nothing, Either', Sequence', Closed'}
use Rattle.hp_detect.specs.declared.stepping.Step.{Step}

abbrev pub event : EventExpr → M.Event
event (One p) = M.pattern_event (pattern p)
event (Or' p a q b) = M.or_event (event a) (event b)
event (Seq' p a q b) = M.seq_event (event a) (event b)
event (Closure' p a q t) = M.closure_event (event a) (event t)

abbrev pub known : Known → K.Knowledge
known Nothing = K.nothing_known
known (Either' p k q l) = K.of_either (known k) (known l)
known (Sequence' p k q l waiting) = K.of_sequence (known k) (known l) waiting
known (Closed' p k q l unfinished) = K.of_closure (known k) (known l) (option_map (λ o. occurrence o.value) unfinished)

abbrev pub step : Step → S.Stepped
step s = (option_map occurrence s.occurrence, known s.known.value)

-- what is known of a past, where nothing is kept for a pure event
abbrev pub known_of : M.Event → Option (Arc Known Global) → K.Knowledge
known_of e None = K.knowledge e []
known_of e (Some k) = known k.value
