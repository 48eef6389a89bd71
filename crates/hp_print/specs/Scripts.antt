-- What the members of a script's root stand for in the model, and the parts that it has many of.
use Rattle.std.specs.Prelude.{option_map}
use Rattle.serde_json.specs.Data.{Data}
use Rattle.serde_json.specs.View.{view}
use Rattle.hp_model.specs.Decode as D
use Rattle.hp_model.specs.NotationPrint.{later_class_pieces, rule_pieces, later_item_pieces}
use Rattle.hp_model.specs.NotationValues.{class_form, rule_form, item_form}
use Rattle.hp_print.specs.Written.{Step, step}
use Rattle.hp_print.specs.declared.script.Root.{Root}
use Rattle.hp_print.specs.declared.script.Part.{Part}
use Rattle.hp_print.specs.declared.script.Part.TheVariants as p

abbrev pub root_view : Root → D.Root
root_view r = record {
  version = view r.version.now;
  depth = option_map (λ v. view v.now) r.depth;
  classes = view r.classes.now;
  rules = view r.rules.now;
  items = view r.items.now;
}

abbrev pub part_step : Part → Data → Step
part_step p.Class d = step later_class_pieces (class_form d)
part_step (p.Rule lets) d = step rule_pieces (rule_form lets d)
part_step p.Item d = step later_item_pieces (item_form d)
