use Rattle.std.proofs.Common.{rules, to_z, of_z, w64}
use Rattle.std.proofs.lemmas.Int.{to_z-of_z}
use Rattle.std.proofs.lemmas.List.Sorted.{answers_always}
use Rattle.hp_store.proofs.Agreed.{key_listed}
use Rattle.hp_store.proofs.parts.lists.Goals as goal

-- the closure gives an object's key
pub returns : goal.returns
returns c =
    let found = c.binary_search_by_key.ensures in
    key_listed c.args.objects.now c.args.key (to_z w64 (of_z w64 c.args.key)) c.binary_search_by_key.result c.is_ok.result c.is_ok.ensures.value
    (to_z-of_z w64 c.args.key c.ranges.key) c.requires found.bound
    (found.position (λ o. o.key) (answers_always _ _ _ (λ f a r g called. search rules)))
