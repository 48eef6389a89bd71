use Rattle.std.proofs.Common.{◌≡◌, ◌+◌, ◌-◌, ◌*◌, map}
use Rattle.hp_model.specs.NotationTokens.{size}
use Rattle.hp_model.specs.NotationStatements as S
use Rattle.hp_text.specs.Mapped.{node_view, tokens_view}
use Rattle.hp_text.proofs.Listing.{after}
use Rattle.hp_text.proofs.body.+body.Given as goal

abbrev pub decreases-body : goal.decreases-body
decreases-body l = 16 * l.levels

abbrev pub decreases-statements : goal.decreases-statements
decreases-statements l = 16 * l.inner + 9

abbrev pub decreases-statement : goal.decreases-statement
decreases-statement l = 16 * l.inner + 8

abbrev pub decreases-marked_statement : goal.decreases-marked_statement
decreases-marked_statement l = 16 * l.inner + 7

abbrev pub decreases-otherwise_of_if : goal.decreases-otherwise_of_if
decreases-otherwise_of_if l = 16 * l.inner + 3

abbrev pub decreases-conditional : goal.decreases-conditional
decreases-conditional l = 16 * l.inner + 4

abbrev pub decreases-each_row : goal.decreases-each_row
decreases-each_row l = 16 * l.inner + 5

abbrev pub decreases-with_value : goal.decreases-with_value
decreases-with_value l = 16 * l.inner + 6

abbrev pub decreases-each_answer : goal.decreases-each_answer
decreases-each_answer l = 16 * l.inner + 5

abbrev pub decreases-with_object : goal.decreases-with_object
decreases-with_object l = 16 * l.inner + 5

abbrev pub decreases-subtransaction : goal.decreases-subtransaction
decreases-subtransaction l = 16 * l.inner + 5

abbrev pub decreases-body_after_otherwise : goal.decreases-body_after_otherwise
decreases-body_after_otherwise l = 16 * l.inner + 2

abbrev pub invariant-statements-loop-done : goal.invariant-statements-loop-done
invariant-statements-loop-done l =
    S.statements (S.statement (S.bodies_within l.inner)) (size (tokens_view l.initial.tokens)) (tokens_view l.initial.tokens)
    ≡ after (map node_view l.statements.items) (S.statements (S.statement (S.bodies_within l.inner)) (l.count - l.done) (tokens_view l.tokens))
