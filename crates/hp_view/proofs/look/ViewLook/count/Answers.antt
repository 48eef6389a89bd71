use Rattle.std.proofs.Common.{inl, inr}
use Rattle.hp_view.proofs.Looking.{count_shown}
use Rattle.hp_view.proofs.look.ViewLook.count.Goals as goal

pub returns-clause-counted : goal.returns-clause-counted
returns-clause-counted c = count_shown c.in_ok-count.ensures.shows

pub returns-clause-asks_count : goal.returns-clause-asks_count
returns-clause-asks_count c = record { either = inr c.in_ok-count.ensures.reads }

pub returns-in_err-count-clause-asks_count : goal.returns-in_err-count-clause-asks_count
returns-in_err-count-clause-asks_count c = record { either = inl c.in_err-count.ensures.err }
