use Rattle.std.proofs.Common.{rules, ◌≡◌, ap, ◌∙◌, Bool, ◌<◌, ◌≤◌, length}
use Rattle.std.specs.List.{slice_index_or}
use Rattle.std.specs.Global.{Vec}
use Rattle.hp_analysis.specs.Graphs.{seen}
use Rattle.hp_analysis.specs.Sets.{outside_from}
use Rattle.hp_analysis.proofs.Witnessed.{entry_found, entry_absent}
use Rattle.hp_analysis.proofs.graph.Graph.first_leading.Goals as goal

pub returns-then-number-len : goal.returns-then-number-len
returns-then-number-len c =
    let self = c.args.self.now in
    let library = seen self.triggers in
    let low : c.args.number < length self.after.items = search rules in
    let is : c.index.result.now ≡ slice_index_or self.after.items c.args.number c.index.result.now = search rules in
    c.first_outside.ensures ∙ ap (outside_from c.args.table.now 0) c.deref.ensures.value
    ∙ ap (outside_from c.args.table.now 0) (entry_found (λ (set : Vec Bool). set.items) library self.after.items library.rules c.args.number c.index.result.now self.edges low is)

pub returns : goal.returns
returns c =
    let self = c.args.self.now in
    let library = seen self.triggers in
    let high : length self.after.items ≤ c.args.number = search rules in
    entry_absent (λ (set : Vec Bool). set.items) library c.args.table.now self.after.items library.rules c.args.number self.edges high
