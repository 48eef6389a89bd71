use Rattle.hp_detect.specs.Ropes.{shape}
use Rattle.hp_detect.specs.Shapes.{height}
use Rattle.hp_detect.proofs.rope.+with.Given as goal

abbrev pub decreases-with : goal.decreases-with
decreases-with l = height (shape l.rope.now.value)
