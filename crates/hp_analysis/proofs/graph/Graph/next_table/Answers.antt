use Rattle.std.proofs.Common.{arith, ◌≡◌, ap, ◌∙◌, suc, ◌+◌, subst, map, Bool, List}
use Rattle.std.specs.Prelude.{IfOk}
use Rattle.std.specs.Global.{Vec}
use Rattle.hp_analysis.specs.Graphs.{seen}
use Rattle.hp_analysis.specs.Sets.{is_within, targets}
use Rattle.hp_analysis.proofs.Within.{table_next, each_of}
use Rattle.hp_rule.specs.Libraries as libraries
use Rattle.hp_analysis.proofs.Known.{only_known}
use Rattle.hp_analysis.proofs.graph.Graph.next_table.Goals as goal

pub returns : goal.returns
returns c =
    let self = c.args.self.now in
    let library = seen self.triggers in
    let next : suc c.args.k ≡ c.args.k + 1 = omega arith in
    let same =
    ap (λ sets. map (λ (set : Vec Bool). is_within c.args.table.now set.items) sets) c.deref.ensures.value
    ∙ each_of (λ (set : Vec Bool). set.items) c.args.table.now self.after.items
    ∙ ap (λ sets. map (λ set. is_within c.args.table.now set) sets) self.edges
    ∙ ap (λ t. map (λ set. is_within t set) (map (targets library) library.rules)) c.requires
    ∙ table_next library c.args.k (c.args.k + 1) next (only_known (libraries.library self.triggers.library.now) self.triggers.present.items self.triggers.library.now.checked) in
    subst (λ (bs : List Bool). IfOk c.within_each.result (λ t. t.items ≡ bs)) same c.within_each.ensures
