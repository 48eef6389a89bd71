use Rattle.std.proofs.Common.{◌∙◌}
use Rattle.hp_top.proofs.unit.keep_indexes.Goals as goal

pub returns-in_err-keep_index : goal.returns-in_err-keep_index
returns-in_err-keep_index c = c.keep_index.ensures ∙ c.loop-asked.invariant.same
