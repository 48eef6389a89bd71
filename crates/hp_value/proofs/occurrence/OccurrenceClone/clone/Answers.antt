use Rattle.std.proofs.Common.{ap, List}
use Rattle.hp_model.specs.Occurrences.{Primitive, Occurrence}
use Rattle.hp_value.specs.Mapped.{primitive}
use Rattle.hp_value.proofs.Lists.{clones_map}
use Rattle.hp_value.proofs.occurrence.OccurrenceClone.clone.Goals as goal

pub returns : goal.returns
returns c =
    let f : List Primitive → Occurrence = λ ps. record { parts = ps; count = c.args.self.now.count } in
    record { cases = ap f (clones_map primitive c.args.self.now.parts.items c.in_ok-clone.field-0.items c.in_ok-clone.ensures.cases) }
