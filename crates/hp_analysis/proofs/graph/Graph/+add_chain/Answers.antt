use Rattle.std.proofs.Common.{rules, arith, ◌≡◌, sym, ap, ◌∙◌, suc, ◌-◌, List, ℕ, [], ◌∷◌, ◌++◌, append_assoc, subst, Some, None}
use Rattle.std.specs.Prelude.{OnOk}
use Rattle.std.specs.Option.{option_map_or}
use Rattle.hp_model.specs.Rules.{rule_at}
use Rattle.hp_analysis.specs.Graphs.{seen}
use Rattle.hp_analysis.specs.Sets.{targets, outside_from}
use Rattle.hp_analysis.specs.Tables.{within}
use Rattle.hp_analysis.specs.Witness.{chain_from}
use Rattle.hp_analysis.proofs.Witnessed.{chain_step}
use Rattle.hp_analysis.proofs.graph.Graph.+add_chain.Goals as goal

pub returns-in-Some : goal.returns-in-Some
returns-in-Some t c =
    let library = seen c.args.self.now.triggers in
    let step : c.args.more ≡ suc (c.args.more - 1) = omega (arith, c.if-more-eq0.false) in
    let table : c.deref.result.now ≡ within library (c.args.more - 1) = search rules in
    let pushed : c.push.new.self.items ≡ c.args.chain.now.items ++ c.args.number ∷ [] = search rules in
    let next : outside_from (within library (c.args.more - 1)) 0 (targets library (rule_at library c.args.number)) ≡ Some c.in-Some.next =
    ap (λ tb. outside_from tb 0 (targets library (rule_at library c.args.number))) (sym table) ∙ (sym c.first_leading.ensures ∙ c.in-Some.is) in
    let chain : chain_from library c.args.more c.args.number ≡ c.args.number ∷ chain_from library (c.args.more - 1) c.in-Some.next =
    chain_step library c.args.more (c.args.more - 1) c.args.number step ∙ ap (λ o. c.args.number ∷ option_map_or (chain_from library (c.args.more - 1)) o []) next in
    let same : c.push.new.self.items ++ chain_from library (c.args.more - 1) c.in-Some.next ≡ c.args.chain.now.items ++ chain_from library c.args.more c.args.number =
    ap (λ xs. xs ++ chain_from library (c.args.more - 1) c.in-Some.next) pushed
    ∙ append_assoc c.args.chain.now.items (c.args.number ∷ []) (chain_from library (c.args.more - 1) c.in-Some.next)
    ∙ ap (λ xs. c.args.chain.now.items ++ xs) (sym chain) in
    subst (λ (xs : List ℕ). OnOk c.add_chain.result (c.add_chain.new.chain.items ≡ xs)) same c.add_chain.ensures

pub returns : goal.returns
returns t c =
    let library = seen c.args.self.now.triggers in
    let step : c.args.more ≡ suc (c.args.more - 1) = omega (arith, c.if-more-eq0.false) in
    let table : c.deref.result.now ≡ within library (c.args.more - 1) = search rules in
    let pushed : c.push.new.self.items ≡ c.args.chain.now.items ++ c.args.number ∷ [] = search rules in
    let next : outside_from (within library (c.args.more - 1)) 0 (targets library (rule_at library c.args.number)) ≡ None =
    ap (λ tb. outside_from tb 0 (targets library (rule_at library c.args.number))) (sym table) ∙ (sym c.first_leading.ensures ∙ c.in-None.is) in
    let chain : chain_from library c.args.more c.args.number ≡ c.args.number ∷ [] =
    chain_step library c.args.more (c.args.more - 1) c.args.number step ∙ ap (λ o. c.args.number ∷ option_map_or (chain_from library (c.args.more - 1)) o []) next in
    pushed ∙ ap (λ xs. c.args.chain.now.items ++ xs) (sym chain)
