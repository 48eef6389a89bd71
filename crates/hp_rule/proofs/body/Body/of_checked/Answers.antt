use Rattle.std.proofs.Common.{[]}
use Rattle.hp_rule.specs.Statements.{body_in}
use Rattle.hp_rule.specs.Libraries.{library}
use Rattle.hp_rule.proofs.WellNamedLemmas.{body_is_well_named}
use Rattle.hp_rule.proofs.body.Body.of_checked.Goals as goal

pub returns-clause-well_named : goal.returns-clause-well_named
returns-clause-well_named c = body_is_well_named (library c.args.shared.now.value) [] (body_in c.args.statements.items) c.requires
