use Rattle.std.proofs.Common.{◌≡◌, map, drop, Option}
use Rattle.serde_json.specs.Data.{Data}
use Rattle.serde_json.specs.View.{view}
use Rattle.hp_model.specs.NotationPrint.{Pieces, condition_pieces}
use Rattle.hp_model.specs.NotationValues.{query_of}
use Rattle.hp_print.specs.Written.{step, text_with}
use Rattle.hp_print.specs.Lists.{steps}
use Rattle.hp_print.proofs.rule.each_condition.Given as goal

-- the queries that are left come next
abbrev pub invariant-loop-value : goal.invariant-loop-value
invariant-loop-value l =
    let each = λ (d : Data). step condition_pieces (query_of l.lets d) in
    (rest : Option Pieces) → text_with l.initial.w (steps each (map view l.values) rest) ≡ text_with l.w (steps each (map view (drop l.value-index l.values)) rest)
