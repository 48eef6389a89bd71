use Rattle.std.proofs.Common.{to_z, of_z, w64}
use Rattle.std.proofs.lemmas.Int.{to_z-of_z}
use Rattle.hp_store.proofs.Based.{object_found, object_missing}
use Rattle.hp_store.proofs.base.Base.object.Goals as goal

pub returns-in-Some : goal.returns-in-Some
returns-in-Some c =
    object_found c.args.self.now c.args.class c.args.key (to_z w64 (of_z w64 c.args.key)) c.deref.result.now c.in-Some.table.now c.get-in-Some.result c.deref.ensures.value
    c.in-Some.ensures.lookup.3.0 c.in-Some.ensures.lookup.1 (to_z-of_z w64 c.args.key c.ranges.key) c.get-in-Some.ensures.value

pub returns-in-None : goal.returns-in-None
returns-in-None c = object_missing c.args.self.now c.args.class c.args.key c.deref.result.now c.deref.ensures.value c.in-None.ensures.lookup.3
