use Rattle.hp_rule.specs.Statements.{library_of}
use Rattle.hp_rule.proofs.WellNamedLemmas.{library_is_well_named}
use Rattle.hp_rule.proofs.library.Library.of_checked.Goals as goal

pub returns-clause-well_named : goal.returns-clause-well_named
returns-clause-well_named c = library_is_well_named (library_of c.args.classes.items c.args.rules.items c.args.depth_limit) c.requires
