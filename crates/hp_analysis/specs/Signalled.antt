-- What what is signalled, and links, stand for in the definitions.
use Rattle.std.specs.Prelude.{[], pos, Option, option_map}
use Rattle.std.specs.Global.{Vec}
use Rattle.hp_model.specs.Occurrences as O
use Rattle.hp_model.specs.Refusals.{Path}
use Rattle.hp_rule.specs.Places.{path}
use Rattle.hp_rule.specs.declared.place.PathStep.{PathStep}
use Rattle.hp_analysis.specs.Links as L
use Rattle.hp_analysis.specs.declared.links.Link.{Link}
use Rattle.hp_analysis.specs.declared.links.Signalled.{Signalled}
use Rattle.hp_analysis.specs.declared.links.Signalled.TheVariants.{Created, Updated, Deleted, Named, Commit}

-- whatever keys, rows and arguments are
abbrev pub primitive : Signalled → O.Primitive
primitive (Created class) = O.created class (pos 0) []
primitive (Updated class) = O.updated class (pos 0) [] []
primitive (Deleted class) = O.deleted class (pos 0) []
primitive (Named name) = O.signalled name.now []
primitive Commit = O.commit_reached

abbrev pub link : Link → L.Link
link l = record { by = path l.by.items; event = path l.event.items }

abbrev pub links : Option Link → Option L.Link
links = option_map link

abbrev pub paths : Option (Vec PathStep) → Option Path
paths = option_map (λ v. path v.items)
