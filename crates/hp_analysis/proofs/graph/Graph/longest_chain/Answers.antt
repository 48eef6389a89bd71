use Rattle.std.proofs.Common.{rules, ◌≡◌, ap, ◌∙◌, map, ◌&&◌, nat_lt, true}
use Rattle.hp_model.specs.Chains.{library_within}
use Rattle.hp_analysis.specs.Graphs.{seen}
use Rattle.hp_analysis.specs.Sets.{is_within}
use Rattle.hp_analysis.specs.Tables.{within}
use Rattle.hp_analysis.proofs.Within.{all_passes, least_same}
use Rattle.hp_analysis.proofs.Least.{least_is, ok_to}
use Rattle.hp_analysis.proofs.graph.Graph.longest_chain.Goals as goal

pub returns : goal.returns
returns c =
    let library = seen c.args.self.now.triggers in
    let all : c.deref.result.now ≡ map (λ r. true) library.rules = search rules in
    ok_to c.depth_from.result
    (λ depth h. least_is (library_within library) library.depth_limit depth
    (least_same (λ k. nat_lt 0 k && is_within (within library k) c.deref.result.now) (library_within library) library.depth_limit depth
    (λ k. ap (λ set. nat_lt 0 k && is_within (within library k) set) all ∙ all_passes library k) h))
    c.depth_from.ensures
