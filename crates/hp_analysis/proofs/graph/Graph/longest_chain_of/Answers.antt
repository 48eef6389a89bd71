use Rattle.std.proofs.Common.{rules, ◌≡◌, ap, ◌∙◌, map, ◌&&◌, nat_lt}
use Rattle.hp_model.specs.Chains.{script_within}
use Rattle.hp_analysis.specs.Graphs.{seen}
use Rattle.hp_rule.specs.Mapped.{unit}
use Rattle.hp_analysis.specs.Sets.{no_rules, begun, is_within}
use Rattle.hp_analysis.specs.Tables.{within, script}
use Rattle.hp_analysis.proofs.Within.{begun_passes, least_same}
use Rattle.hp_analysis.proofs.Least.{least_is, ok_to}
use Rattle.hp_analysis.proofs.graph.Graph.longest_chain_of.Goals as goal

pub returns : goal.returns
returns c =
    let library = seen c.args.self.now.triggers in
    let units = map unit c.args.units.now in
    let set : c.deref.result.now ≡ begun library units (no_rules library) = search rules in
    ok_to c.depth_from.result
    (λ depth h. least_is (λ k. nat_lt 0 k && script_within k (script library units)) library.depth_limit depth
    (least_same (λ k. nat_lt 0 k && is_within (within library k) c.deref.result.now) (λ k. nat_lt 0 k && script_within k (script library units)) library.depth_limit depth
    (λ k. ap (λ s. nat_lt 0 k && is_within (within library k) s) set ∙ begun_passes library units k) h))
    c.depth_from.ensures
