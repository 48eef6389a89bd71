use Rattle.std.proofs.Common.{[], None}
use Rattle.hp_value.specs.Mapped.{answers}
use Rattle.hp_value.proofs.Answered.{found_is}
use Rattle.hp_value.proofs.env.Names.answered.Goals as goal

pub loop-answer-init : goal.loop-answer-init
loop-answer-init c = found_is c.args.name.now None [] (answers c.args.kept.now)
