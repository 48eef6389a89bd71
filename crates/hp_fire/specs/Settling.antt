-- Settling the front of the attempts at a group's tasks.
use Rattle.std.specs.Prelude.{◌≡◌, Bool, List, ◌++◌, length, drop, option_map}
use Rattle.hp_model.specs.Cells.{Cells}
use Rattle.hp_model.specs.Tree.{Task}
use Rattle.hp_value.specs.Mapped.{veto}
use Rattle.hp_attempt.specs.declared.outcome.Outcome.{Outcome}
use Rattle.hp_attempt.specs.Fronts.{AreOutcomes, IsLongest, stopped_by}
use Rattle.hp_fire.specs.declared.speculate.progress.Progress.{Progress}

-- The front of the attempts is settled, all of it and nothing else: its outcomes are those of the first attempts, the
-- other attempts stay, and of the tasks that are left the first has no attempt that holds in these cells, unless a veto
-- has stopped the group.
pub record SettlesFront (stops : Bool) (tasks : List Task) (now : Cells) (old new : Progress) : Type 0 where
  pub front : List Outcome
  pub outcomes : new.settled.outcomes.items ≡ old.settled.outcomes.items ++ front
  pub end : option_map veto new.settled.end ≡ stopped_by stops front
  pub are : AreOutcomes front old.pending.attempts.items
  pub left : new.pending.attempts.items ≡ drop (length front) old.pending.attempts.items
  pub longest : IsLongest (stopped_by stops front) now (drop (length front) (drop (length old.settled.outcomes.items) tasks)) new.pending.attempts.items
