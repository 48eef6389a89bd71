use Rattle.std.proofs.Common.{rules, ◌≡◌, ap, subst, map, true, List, ℕ}
use Rattle.std.specs.Prelude.{IfOk}
use Rattle.hp_analysis.specs.Graphs.{seen}
use Rattle.hp_analysis.specs.Witness.{chain_of}
use Rattle.hp_analysis.proofs.graph.Graph.too_long.Goals as goal

pub returns : goal.returns
returns c =
    let library = seen c.args.self.now.triggers in
    let all : c.deref.result.now ≡ map (λ r. true) library.rules = search rules in
    subst (λ (ns : List ℕ). IfOk c.chain_of.result (λ chain. chain.items ≡ ns)) (ap (chain_of library) all) c.chain_of.ensures
