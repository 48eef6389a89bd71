use Rattle.std.proofs.Common.{rules, ◌≡◌, ◌∙◌, ap, []}
use Rattle.hp_rule.specs.Libraries as libraries
use Rattle.hp_analysis.specs.Installed.{with_only}
use Rattle.hp_analysis.proofs.Least.{ok_to}
use Rattle.hp_analysis.proofs.Only.{only_all}
use Rattle.hp_analysis.proofs.graph.Graph.of.Goals as goal

pub returns : goal.returns
returns c =
    let library = libraries.library c.args.library.now in
    let none : c.new.result.items ≡ [] = search rules in
    ok_to c.among.result (λ graph h. h ∙ ap (λ set. with_only set library) none ∙ only_all library) c.among.ensures.seen
