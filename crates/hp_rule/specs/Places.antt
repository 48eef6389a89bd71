-- Places and paths in the model.
use Rattle.std.specs.Prelude.{[], ◌∷◌, ◌++◌, List, map, codes}
use Rattle.hp_model.specs.Values.{Name}
use Rattle.hp_model.specs.Refusals as M
use Rattle.hp_model.specs.Refusals.{Path, to_member, to_item}
use Rattle.hp_rule.specs.declared.place.Member.{Member}
use Rattle.hp_rule.specs.declared.place.Member.TheVariants as members
use Rattle.hp_rule.specs.declared.place.PathStep.{PathStep}
use Rattle.hp_rule.specs.declared.place.PathStep.TheVariants as path_steps
use Rattle.hp_rule.specs.declared.place.Place.{Place, fold-Place}
use Rattle.hp_rule.specs.declared.place.Place.TheOpen.{Place-F}

abbrev pub member : Member → Name
member members.Version = codes "version"
member members.Depth = codes "depth"
member members.Classes = codes "classes"
member members.Rules = codes "rules"
member members.Items = codes "items"

abbrev pub path_step : PathStep → M.Step
path_step (path_steps.Member m) = to_member (member m)
path_step (path_steps.Item i) = to_item i

abbrev pub path : List PathStep → Path
path ss = map path_step ss

-- the path of a place
abbrev pub steps_step : Place-F Path → Path
steps_step Place-F.Root = []
steps_step (Place-F.Member m) = to_member (member m) ∷ []
steps_step (Place-F.Item list i) = list.now ++ to_item i ∷ []

abbrev pub steps : Place → Path
steps = fold-Place Path steps_step
