-- What the parts of rules stand for in the model, and a script's parts one after another.
use Rattle.std.specs.Prelude.{List, codes}
use Rattle.hp_model.specs.NotationForms as F
use Rattle.hp_model.specs.NotationPrint.{Pieces, tight, space, free, natural, each_part, condition_pieces, rule_pieces, later_item_pieces, depth_pieces, classes_pieces}

abbrev pub conditions_pieces : List F.Query → Pieces → Pieces
conditions_pieces qs k = each_part condition_pieces qs k

abbrev pub rules_pieces : List F.Rule → Pieces → Pieces
rules_pieces rs k = each_part rule_pieces rs k

abbrev pub items_pieces : List F.Item → Pieces → Pieces
items_pieces is k = each_part later_item_pieces is k

-- a script, and then what is left
abbrev pub script_before : F.Script → Pieces → Pieces
script_before s k =
    free tight (codes "version") (natural space s.version (depth_pieces s.depth (classes_pieces s.classes (rules_pieces s.rules (items_pieces s.items k)))))
