-- Operands of products.
use Rattle.std.specs.Prelude.{ℕ}
use Rattle.hp_model.specs.NotationTree.{Node, Phrase}
use Rattle.hp_model.specs.NotationExpressions.{expressions_within, unary}

-- an operand with or without a minus, within which so many levels are left
unfoldable pub unary_operand : (inner : ℕ) → Phrase Node
unary_operand inner = unary (expressions_within inner)
