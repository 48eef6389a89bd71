use Rattle.std.proofs.Common.{rules, sym, subst, ℕ, Option}
use Rattle.std.specs.Prelude.{OnOk}
use Rattle.hp_model.specs.Rules.{Library}
use Rattle.hp_report.specs.Text.{Gains}
use Rattle.hp_analysis.specs.Checking.{chain_lines, chain_text}
use Rattle.hp_analysis.specs.Graphs.{seen}
use Rattle.hp_analysis.specs.Witness.{script_chain}
use Rattle.hipac_check.specs.Scripts.{script_of}
use Rattle.hipac_check.specs.Spots.{shown}
use Rattle.hipac_check.proofs.checking.put_chain_by.Goals as goal

pub returns-in-None : goal.returns-in-None
returns-in-None c =
    let script = script_of c.args.checked.now in
    let S = shown c.args.checked.now.spots in
    let rs = script.library.rules in
    let put : OnOk c.put_own_chain.result
    (Gains c.args.text.now c.put_own_chain.new.text (chain_lines S rs (seen c.args.graph.now.triggers) (script_chain (seen c.args.graph.now.triggers) script.units))) = search rules in
    subst (λ (o : Option ℕ). OnOk c.put_own_chain.result (Gains c.args.text.now c.put_own_chain.new.text (chain_text S script o))) (sym c.in-None.is)
    (subst (λ (l : Library). OnOk c.put_own_chain.result (Gains c.args.text.now c.put_own_chain.new.text (chain_lines S rs l (script_chain l script.units)))) c.requires put)
