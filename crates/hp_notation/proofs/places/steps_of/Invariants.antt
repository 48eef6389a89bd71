use Rattle.std.proofs.Common.{◌≡◌, map, take}
use Rattle.hp_rule.specs.Places.{path_step}
use Rattle.hp_text.specs.Steps.{step_view}
use Rattle.hp_notation.proofs.places.steps_of.Given as goal

abbrev pub invariant-loop-step : goal.invariant-loop-step
invariant-loop-step l = map step_view l.steps.items ≡ map path_step (take l.step-index l.path)
