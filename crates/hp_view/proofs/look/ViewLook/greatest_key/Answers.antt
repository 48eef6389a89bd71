use Rattle.std.proofs.Common.{inl, inr}
use Rattle.hp_view.proofs.Looking.{greatest_shown}
use Rattle.hp_view.proofs.look.ViewLook.greatest_key.Goals as goal

pub returns-clause-found : goal.returns-clause-found
returns-clause-found c = greatest_shown c.in_ok-greatest.ensures.shows

pub returns-clause-asks_greatest : goal.returns-clause-asks_greatest
returns-clause-asks_greatest c = record { either = inr c.in_ok-greatest.ensures.reads }

pub returns-in_err-greatest-clause-asks_greatest : goal.returns-in_err-greatest-clause-asks_greatest
returns-in_err-greatest-clause-asks_greatest c = record { either = inl c.in_err-greatest.ensures.err }
