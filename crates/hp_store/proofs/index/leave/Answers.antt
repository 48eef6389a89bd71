use Rattle.hp_store.specs.contracts.place.PlaceEq.TheImpl.Laws.{laws-law}
use Rattle.hp_store.proofs.Placed.{taken_out}
use Rattle.hp_store.proofs.index.leave.Goals as goal

pub returns-then-ne-clause-kept : goal.returns-then-ne-clause-kept
returns-then-ne-clause-kept c =
    taken_out c.args.places.now c.remove.new.self c.args.old c.args.new c.in-Some.place c.ne.result _ laws-law.refl c.in-Some.is c.if-ne.true c.ne.ensures c.remove.ensures.updates.0
