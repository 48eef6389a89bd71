use Rattle.std.proofs.Common.{rules, subst, ◌≡◌, ◌∷◌}
use Rattle.std.specs.Prelude.{All}
use Rattle.std.proofs.lemmas.List.Elements.{All-head, All-tail}
use Rattle.hp_model.specs.Soundness.{IsSound}
use Rattle.hp_attempt.specs.Mapped.{attempt}
use Rattle.hp_fire.specs.declared.speculate.pending.Tried.{Tried}
use Rattle.hp_fire.proofs.speculate.pending.Pending.put_each.Goals as goal

pub loop-tried-preserved : goal.loop-tried-preserved
loop-tried-preserved c = λ library all tries.
    let P = λ (t : Tried). IsSound library (attempt t.attempt) in
    let split : c.loop-tried.tried-iterator.rest.items ≡ c.in-Some.tried ∷ c.next.new.self.rest.items = search rules in
    let held = c.loop-tried.invariant library all tries in
    let more = subst (All P) split held.1 in
    (c.put.ensures.sound library held.0 (All-head P c.in-Some.tried c.next.new.self.rest.items more), All-tail P c.in-Some.tried c.next.new.self.rest.items more)
