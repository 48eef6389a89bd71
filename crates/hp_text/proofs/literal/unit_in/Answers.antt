use Rattle.std.proofs.Common.{arith}
use Rattle.json.specs.Text.{code_unit}
use Rattle.hp_text.proofs.literal.unit_in.Goals as goal

pub returns-then-high-second-clause-value : goal.returns-then-high-second-clause-value
unfolding code_unit
returns-then-high-second-clause-value c = rw (← c.digit-high.ensures.value, ← c.digit-second.ensures.value, ← c.digit-third.ensures.value, ← c.digit-low.ensures.value) (grind arith)

pub returns-clause-value : goal.returns-clause-value
unfolding code_unit
returns-clause-value c = rw (← c.digit-high.ensures.value, ← c.digit-second.ensures.value, ← c.digit-third.ensures.value, ← c.digit-low.ensures.value) (grind arith)
