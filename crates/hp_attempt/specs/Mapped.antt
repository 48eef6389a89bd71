-- What the crate's types stand for in the model: a function for each.
use Rattle.std.specs.Prelude.{map, Option, option_map}
use Rattle.hp_model.specs.Values as V
use Rattle.hp_model.specs.Soundness as S
use Rattle.hp_value.specs.Mapped.{veto}
use Rattle.hp_rule.specs.Mapped.{task, detached}
use Rattle.hp_store.specs.Changes.{changes}
use Rattle.hp_tree.specs.Mapped.{items_in}
use Rattle.hp_attempt.specs.declared.outcome.Outcome.{Outcome}
use Rattle.hp_attempt.specs.declared.outcome.Attempt.{Attempt}

-- the veto with which a firing ended, if it did
abbrev pub veto_in : Outcome → Option V.Veto
veto_in o = option_map veto o.end

abbrev pub firing : Outcome → S.FiringAnswer
firing o = record { vetoed_by = veto_in o; queued = map task o.queued.items; detached = map detached o.detached.items; items = items_in o.tree.items }

abbrev pub attempt : Attempt → S.Attempt
attempt a = record { task = task a.task; reads = a.reads; layer = changes a.layer.value; answer = firing a.outcome }
