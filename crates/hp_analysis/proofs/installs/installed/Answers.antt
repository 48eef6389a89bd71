use Rattle.std.proofs.Common.{rules, ◌≡◌, ap, ◌∙◌, map, length, Bool}
use Rattle.std.specs.Global.{Vec}
use Rattle.hp_model.specs.Idle.{unit_installs}
use Rattle.hp_rule.specs.Libraries as libraries
use Rattle.hp_rule.specs.Mapped.{unit}
use Rattle.hp_analysis.specs.Sets.{no_rules, gathered, installs}
use Rattle.hp_analysis.specs.Reached.{closure}
use Rattle.hp_analysis.proofs.Reaching.{spread_is}
use Rattle.hp_analysis.proofs.installs.installed.Goals as goal

pub returns : goal.returns
returns c =
    let library = libraries.library c.args.library.now in
    let units = map unit c.args.units.now in
    let set = c.in_ok-set.set.items in
    let is : set ≡ gathered unit_installs units (no_rules library) = search rules in
    let own : map (λ (s : Vec Bool). s.items) c.in_ok-after.after.items ≡ map (installs library) library.rules = search rules in
    let after_is = ap (map (λ (s : Vec Bool). s.items)) c.deref.ensures.value ∙ own in
    spread_is library (map (installs library) library.rules) unit_installs units set c.spread.new.set.items is (c.spread.ensures ∙ ap (λ after. closure (length set) after set) after_is)
