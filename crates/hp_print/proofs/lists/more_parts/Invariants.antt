use Rattle.std.proofs.Common.{◌≡◌, map, drop, Option}
use Rattle.serde_json.specs.View.{view}
use Rattle.hp_model.specs.NotationPrint.{Pieces}
use Rattle.hp_print.specs.Written.{text_with}
use Rattle.hp_print.specs.Lists.{steps, comma_step}
use Rattle.hp_print.proofs.lists.more_parts.Given as goal

-- the parts that are left come next
abbrev pub invariant-loop-value : goal.invariant-loop-value
invariant-loop-value l =
    (rest : Option Pieces) → text_with l.initial.w (steps (comma_step l.kind) (map view l.values) rest) ≡ text_with l.w (steps (comma_step l.kind) (map view (drop l.value-index l.values)) rest)
