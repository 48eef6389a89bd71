use Rattle.std.proofs.Common.{rules, ◌≡◌, ap, ◌∙◌}
use Rattle.std.specs.Prelude.{is_none}
use Rattle.hp_analysis.specs.Openings.{opening}
use Rattle.hp_analysis.proofs.Guarding.{mapped_none}
use Rattle.hp_analysis.proofs.guards.has_no_opening.Goals as goal

pub returns : goal.returns
returns c =
    let own : c.is_none.result ≡ is_none c.opening_of.result = search rules in
    own ∙ mapped_none opening c.opening_of.result ∙ ap is_none c.opening_of.ensures
