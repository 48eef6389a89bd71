use Rattle.std.proofs.Common.{rules, ◌≡◌, sym, ap, ◌∙◌, map, length, Bool, ◌++◌}
use Rattle.std.specs.Global.{Vec}
use Rattle.hp_model.specs.Chains.{unit_triggers}
use Rattle.hp_rule.specs.Mapped.{unit}
use Rattle.hp_analysis.specs.Declarations.{declared}
use Rattle.hp_analysis.specs.Outside.{raised}
use Rattle.hp_analysis.specs.Sets.{no_rules, targets, gathered}
use Rattle.hp_analysis.specs.Reached.{closure}
use Rattle.hp_analysis.specs.Graphs.{seen}
use Rattle.hp_analysis.proofs.Reaching.{spread_is, gathered_append}
use Rattle.hp_analysis.proofs.graph.Graph.reached_with.Goals as goal

pub returns : goal.returns
returns c =
    let self = c.args.self.now in
    let library = seen self.triggers in
    let units = map unit c.args.units.now in
    let outside = raised (declared c.args.declaration.now) in
    let begun = c.in_ok-set.set.items in
    let set = c.mark_raised.new.set.items in
    let own : begun ≡ gathered (unit_triggers library) units (no_rules library) = search rules in
    let both : set ≡ gathered (unit_triggers library) outside begun = search rules in
    let is : set ≡ gathered (unit_triggers library) (units ++ outside) (no_rules library) =
    both ∙ ap (gathered (unit_triggers library) outside) own ∙ sym (gathered_append (unit_triggers library) units outside (no_rules library)) in
    let after_is = ap (map (λ (s : Vec Bool). s.items)) c.deref.ensures.value ∙ self.edges in
    spread_is library (map (targets library) library.rules) (unit_triggers library) (units ++ outside) set c.spread.new.set.items is
    (c.spread.ensures ∙ ap (λ after. closure (length set) after set) after_is)
