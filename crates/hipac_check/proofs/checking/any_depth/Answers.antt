use Rattle.std.proofs.Common.{◌≡◌, subst}
use Rattle.std.specs.Prelude.{IfOk}
use Rattle.hp_model.specs.Rules.{Library}
use Rattle.hp_analysis.specs.Depths.{library_depth}
use Rattle.hipac_check.proofs.checking.any_depth.Goals as goal

pub returns : goal.returns
returns c = subst (λ (l : Library). IfOk c.longest_chain.result (λ depth. depth ≡ library_depth l)) c.in_ok-graph.ensures c.longest_chain.ensures
