use Rattle.hp_view.proofs.Looking.{keys_shown}
use Rattle.hp_view.proofs.look.ViewLook.keys.Goals as goal

pub returns-clause-listed : goal.returns-clause-listed
returns-clause-listed c = keys_shown c.in_ok-keys.ensures.shows
