use Rattle.hp_script.proofs.Overs.{over_read}
use Rattle.hp_script.proofs.aggregate.over_at.Goals as goal

pub returns : goal.returns
returns c = over_read c.query_at.result _ _ _ _ _ _ c.query_at.ensures
