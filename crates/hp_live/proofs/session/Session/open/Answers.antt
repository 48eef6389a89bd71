use Rattle.std.proofs.Common.{refl}
use Rattle.hp_lines.specs.Live as L
use Rattle.hp_live.specs.Kept.{manner, declared_of}
use Rattle.hp_live.proofs.session.Session.open.Goals as goal

pub returns : goal.returns
returns c = c.in_ok-outcome.ensures.answer (manner c.args.options (declared_of c.args.checks)) L.unopened (record { manner_is = refl; stage_is = tt; whole = refl })
