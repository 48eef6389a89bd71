use Rattle.hp_detect.specs.Ropes.{shape}
use Rattle.hp_detect.specs.Shapes.{height}
use Rattle.hp_detect.proofs.rope.+split_first.Given as goal

abbrev pub decreases-split_first : goal.decreases-split_first
decreases-split_first l = height (shape l.rope.now)
