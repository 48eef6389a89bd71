use Rattle.std.proofs.Common.{sym, subst, IsTrue, w64}
use Rattle.std.proofs.lemmas.Int.{to_z-of_z}
use Rattle.hp_model.specs.Values.{fits_64}
use Rattle.hp_store.proofs.Entered.{fits}
use Rattle.hp_store.proofs.layer.Layer.insert_object.Goals as goal

pub put-requires : goal.put-requires
put-requires c = subst (λ z. IsTrue (fits_64 z)) (sym (to_z-of_z w64 c.args.key c.ranges.key)) (fits c.args.key c.ranges.key)
