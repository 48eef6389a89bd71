use Rattle.std.proofs.Common.{map, ap, sym, ◌∙◌}
use Rattle.std.specs.Map.Iter.{deref_pair}
use Rattle.hp_store.specs.Mapped.{entry}
use Rattle.hp_store.proofs.Merging.{nothing_left, unnamed}
use Rattle.hp_store.proofs.layer.Layer.names_objects_of.Goals as goal

pub returns-clause-leaves : goal.returns-clause-leaves
returns-clause-leaves c = λ no.
    unnamed c.args.class c.args.self.now (sym c.of_class.ensures.entries ∙ ap (map entry) (nothing_left deref_pair _ _ _ (sym c.is_some.ensures ∙ no) c.next.ensures.steps))
