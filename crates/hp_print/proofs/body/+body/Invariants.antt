use Rattle.std.proofs.Common.{◌≡◌, ◌+◌, ◌*◌, map, drop, Option}
use Rattle.serde_json.specs.Data.{Data}
use Rattle.serde_json.specs.View.{view}
use Rattle.hp_model.specs.NotationPrint.{Pieces, statement_pieces}
use Rattle.hp_print.specs.Written.{step, text_with}
use Rattle.hp_print.specs.Lists.{steps}
use Rattle.hp_print.specs.Statements.{statement_within}
use Rattle.hp_print.proofs.body.+body.Given as goal

abbrev pub decreases-of_form : goal.decreases-of_form
decreases-of_form l = 8 * l.nest.levels + 4

abbrev pub decreases-of_two : goal.decreases-of_two
decreases-of_two l = 8 * l.nest.levels + 3

abbrev pub decreases-of_three : goal.decreases-of_three
decreases-of_three l = 8 * l.nest.levels + 3

abbrev pub decreases-of_four : goal.decreases-of_four
decreases-of_four l = 8 * l.nest.levels + 3

abbrev pub decreases-when : goal.decreases-when
decreases-when l = 8 * l.nest.levels + 2

abbrev pub decreases-each : goal.decreases-each
decreases-each l = 8 * l.nest.levels + 2

abbrev pub decreases-for_answer : goal.decreases-for_answer
decreases-for_answer l = 8 * l.nest.levels + 2

abbrev pub decreases-with_object : goal.decreases-with_object
decreases-with_object l = 8 * l.nest.levels + 2

abbrev pub decreases-with_value : goal.decreases-with_value
decreases-with_value l = 8 * l.nest.levels + 2

abbrev pub decreases-subtransaction : goal.decreases-subtransaction
decreases-subtransaction l = 8 * l.nest.levels + 2

abbrev pub decreases-other_body : goal.decreases-other_body
decreases-other_body l = 8 * l.nest.levels + 1

abbrev pub decreases-body : goal.decreases-body
decreases-body l = 8 * l.nest.levels

abbrev pub decreases-braced : goal.decreases-braced
decreases-braced l = 8 * l.nest.levels + 7

abbrev pub decreases-statements : goal.decreases-statements
decreases-statements l = 8 * l.nest.levels + 6

abbrev pub decreases-statement : goal.decreases-statement
decreases-statement l = 8 * l.nest.levels + 5

-- the statements that are left come next
abbrev pub invariant-statements-loop-value : goal.invariant-statements-loop-value
invariant-statements-loop-value l =
    let each = λ (d : Data). step (λ s. statement_pieces s l.nest.depth) (statement_within l.nest.levels d) in
    (rest : Option Pieces) → text_with l.initial.w (steps each (map view l.values) rest) ≡ text_with l.w (steps each (map view (drop l.value-index l.values)) rest)
