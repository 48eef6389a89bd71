use Rattle.std.proofs.Common.{rules, subst}
use Rattle.std.specs.Prelude.{OnOk}
use Rattle.hp_model.specs.Rules.{Library}
use Rattle.hp_rule.specs.Libraries as libraries
use Rattle.hp_report.specs.Text.{Gains}
use Rattle.hp_analysis.specs.Checking.{chain_lines}
use Rattle.hp_analysis.specs.Graphs.{seen}
use Rattle.hp_analysis.specs.Witness.{library_chain}
use Rattle.hipac_check.specs.Spots.{shown}
use Rattle.hipac_check.proofs.checking.put_any_chain.Goals as goal

pub returns : goal.returns
returns c =
    let L = libraries.library c.args.library.now in
    let S = shown c.args.spots.now in
    let put : OnOk c.put_chain.result
    (Gains c.args.text.now c.put_chain.new.out (chain_lines S L.rules (seen c.in_ok-graph.graph.triggers) (library_chain (seen c.in_ok-graph.graph.triggers)))) = search rules in
    subst (λ (l : Library). OnOk c.put_chain.result (Gains c.args.text.now c.put_chain.new.out (chain_lines S L.rules l (library_chain l)))) c.in_ok-graph.ensures put
