use Rattle.std.proofs.Common.{rules, subst, ◌≡◌, ◌∷◌, Vec}
use Rattle.std.specs.Prelude.{All}
use Rattle.std.specs.Global.{Global}
use Rattle.std.proofs.lemmas.List.Elements.{All-head, All-tail}
use Rattle.hp_fire.specs.declared.speculate.pending.Tried.{Tried}
use Rattle.hp_fire.specs.Groups.{AreSoundTries}
use Rattle.hp_fire.proofs.speculate.pending.Pending.put_all.Goals as goal

pub loop-tries-preserved : goal.loop-tries-preserved
loop-tries-preserved c = λ library all found.
    let P = λ (tries : Vec Tried Global). AreSoundTries library tries.items in
    let split : c.loop-tries.tries-iterator.rest.items ≡ c.in-Some.tries ∷ c.next.new.self.rest.items = search rules in
    let held = c.loop-tries.invariant library all found in
    let more = subst (All P) split held.1 in
    (c.put_each.ensures library held.0 (All-head P c.in-Some.tries c.next.new.self.rest.items more), All-tail P c.in-Some.tries c.next.new.self.rest.items more)
