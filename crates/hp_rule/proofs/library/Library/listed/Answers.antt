use Rattle.std.proofs.Common.{ap, ◌∙◌, filter}
use Rattle.hp_value.specs.Mapped.{primitive}
use Rattle.hp_rule.specs.Mapped.{library}
use Rattle.hp_rule.specs.Mentions.{is_mentioned}
use Rattle.hp_rule.proofs.Mentioned.{filtered}
use Rattle.hp_rule.proofs.library.Library.listed.Goals as goal

pub returns : goal.returns
returns c =
    let rules_are = (library c.args.self.now).rules in
    let p = primitive c.args.prim.now in
    ap (filter (is_mentioned rules_are p)) (c.listed.ensures ∙ c.args.self.now.indexed p) ∙ filtered rules_are p
