use Rattle.std.proofs.Common.{◌∷◌, take}
use Rattle.std.specs.Fmt.{HasWritten, IsPlainFormatter}
use Rattle.std.specs.List.{flat_map}
use Rattle.hp_model.specs.Output.{step_text}
use Rattle.hp_rule.specs.Places.{path}
use Rattle.hp_script.proofs.shown.StepsDisplay.fmt.Given as goal

abbrev pub invariant-loop-step : goal.invariant-loop-step
invariant-loop-step g l =
    IsPlainFormatter l.initial.f → HasWritten g.W.Write.write_str_gives l.initial.f (flat_map (λ step. 47 ∷ step_text step) (path (take l.step-index l.step-items))) l.f
