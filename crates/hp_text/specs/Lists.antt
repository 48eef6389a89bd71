-- What the parts of lists with commas are in the model.
use Rattle.hp_model.specs.NotationTree.{Node, Phrase}
use Rattle.hp_model.specs.NotationExpressions.{any_expression}
use Rattle.hp_model.specs.NotationStatements.{pair}
use Rattle.hp_model.specs.NotationScripts.{field}
use Rattle.hp_text.specs.declared.lists.Part.{Part}
use Rattle.hp_text.specs.declared.lists.Part.TheVariants.{Pair, Expression, Field}

abbrev pub phrase_of : Part → Phrase Node
phrase_of Pair = pair
phrase_of Expression = any_expression
phrase_of Field = field
