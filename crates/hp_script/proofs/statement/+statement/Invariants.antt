use Rattle.std.proofs.Common.{◌≡◌, ◌+◌, ◌*◌, List, [], drop, map}
use Rattle.serde_json.specs.View.{view}
use Rattle.hp_model.specs.Parts.{read_from}
use Rattle.hp_model.specs.Rules.{Statement}
use Rattle.hp_model.specs.StatementGrammar.{statement_within}
use Rattle.hp_rule.specs.Mapped.{statement}
use Rattle.hp_rule.specs.Places.{steps}
use Rattle.hp_script.specs.Contexts.{setting_here}
use Rattle.hp_script.specs.Forms.{scope_view}
use Rattle.hp_script.proofs.statement.+statement.Given as goal

abbrev pub decreases-statement_within : goal.decreases-statement_within
decreases-statement_within l = 4 * l.levels

abbrev pub decreases-statements_within : goal.decreases-statements_within
decreases-statements_within l = 4 * l.levels + 1

abbrev pub decreases-if_at : goal.decreases-if_at
decreases-if_at l = 4 * l.levels + 2

abbrev pub decreases-each_at : goal.decreases-each_at
decreases-each_at l = 4 * l.levels + 2

abbrev pub decreases-for_at : goal.decreases-for_at
decreases-for_at l = 4 * l.levels + 2

abbrev pub decreases-with_at : goal.decreases-with_at
decreases-with_at l = 4 * l.levels + 2

abbrev pub decreases-sub_at : goal.decreases-sub_at
decreases-sub_at l = 4 * l.levels + 2

abbrev pub decreases-let_at : goal.decreases-let_at
decreases-let_at l = 4 * l.levels + 2

abbrev pub decreases-statement_from : goal.decreases-statement_from
decreases-statement_from l = 4 * l.levels + 3

abbrev pub invariant-statements_within-loop-i : goal.invariant-statements_within-loop-i
invariant-statements_within-loop-i l =
    let read = λ (before : List Statement). statement_within (scope_view l.context.scope) l.levels (setting_here l.context) in
    read_from read (steps l.context.place) (map statement l.body.items) l.i (map view (drop l.i l.values))
    ≡ read_from read (steps l.context.place) [] 0 (map view l.values)
