-- Lists whose parts are written one after another.
use Rattle.std.specs.Prelude.{List, [], ◌∷◌, option_map}
use Rattle.serde_json.specs.Data.{Data}
use Rattle.hp_model.specs.NotationTokens.{comma}
use Rattle.hp_model.specs.NotationPrint.{tight, sign, assignment_pieces, argument_pieces, field_pieces}
use Rattle.hp_model.specs.NotationValues.{assignment_of, any_expression, field_form}
use Rattle.hp_print.specs.Written.{Step, step}
use Rattle.hp_print.specs.declared.lists.Part.{Part}
use Rattle.hp_print.specs.declared.lists.Part.TheVariants.{Assignment, Argument, Field}

-- each value, and then what is left
abbrev pub steps : (Data → Step) → List Data → Step
steps each [] rest = rest
steps each (d ∷ ds) rest = each d (steps each ds rest)

abbrev pub part_step : Part → Data → Step
part_step Assignment d = step assignment_pieces (assignment_of d)
part_step Argument d = step argument_pieces (any_expression d)
part_step Field d = step field_pieces (field_form d)

-- a comma, and a part
abbrev pub comma_step : Part → Data → Step
comma_step part d rest = option_map (sign tight comma) (part_step part d rest)
