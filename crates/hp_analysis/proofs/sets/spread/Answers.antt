use Rattle.std.proofs.Common.{rules, ◌≡◌, ◌<◌, refl, sym, subst, map, Bool, Some, None, List}
use Rattle.std.specs.Global.{Vec}
use Rattle.hp_analysis.specs.Reached.{leading_out, united_from}
use Rattle.hp_analysis.proofs.Reaching.{missing, fewer, goes_on, ends}
use Rattle.hp_analysis.proofs.sets.spread.Goals as goal

pub loop-triggered-init : goal.loop-triggered-init
loop-triggered-init c = refl

pub loop-triggered-preserved : goal.loop-triggered-preserved
loop-triggered-preserved c =
    let after = map (λ (s : Vec Bool). s.items) c.args.after.now in
    let one : leading_out c.loop-triggered.set.items 0 after ≡ Some c.in-Some.triggered.now = search rules in
    let is : c.unite.new.set.items ≡ united_from 0 c.in-Some.triggered.now c.loop-triggered.set.items = search rules in
    goes_on after c.args.set.now.items c.loop-triggered.set.items c.in-Some.triggered.now c.unite.new.set.items one is c.loop-triggered.invariant

pub loop-triggered-smaller : goal.loop-triggered-smaller
loop-triggered-smaller c =
    let after = map (λ (s : Vec Bool). s.items) c.args.after.now in
    let one : leading_out c.loop-triggered.set.items 0 after ≡ Some c.in-Some.triggered.now = search rules in
    let is : c.unite.new.set.items ≡ united_from 0 c.in-Some.triggered.now c.loop-triggered.set.items = search rules in
    subst (λ (s : List Bool). missing s < missing c.loop-triggered.set.items) (sym is) (fewer c.loop-triggered.set.items after c.in-Some.triggered.now one)

pub returns : goal.returns
returns c =
    let after = map (λ (s : Vec Bool). s.items) c.args.after.now in
    let none : leading_out c.loop-triggered.set.items 0 after ≡ None = search rules in
    ends after c.args.set.now.items c.loop-triggered.set.items none c.loop-triggered.invariant
