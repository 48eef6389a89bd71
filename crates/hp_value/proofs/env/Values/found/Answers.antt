use Rattle.std.proofs.Common.{[]}
use Rattle.hp_value.specs.Mapped.{named_values}
use Rattle.hp_value.proofs.Answered.{last_is}
use Rattle.hp_value.proofs.env.Values.found.Goals as goal

pub loop-named-init : goal.loop-named-init
loop-named-init c = last_is c.args.name.now [] (named_values c.args.found.now)
