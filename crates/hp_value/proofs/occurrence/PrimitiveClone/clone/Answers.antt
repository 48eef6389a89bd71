use Rattle.std.proofs.Common.{ap, sym, ◌∙◌, map, string_bytes}
use Rattle.hp_model.specs.Occurrences.{signalled}
use Rattle.hp_value.specs.Mapped.{primitive, value}
use Rattle.hp_value.proofs.Lists.{clones_map}
use Rattle.hp_value.proofs.occurrence.PrimitiveClone.clone.Goals as goal

pub returns-in_ok-clone-in-Signal-2 : goal.returns-in_ok-clone-in-Signal-2
returns-in_ok-clone-in-Signal-2 c =
    let new = c.in_ok-clone-in-Signal-2.field-0.items in
    record {
      cases =
          ap (λ n. signalled n (map value new)) c.in_ok-clone-in-Signal.ensures.cases
          ∙ ap (signalled (string_bytes c.in-Signal.name)) (clones_map value c.in-Signal.args.items new c.in_ok-clone-in-Signal-2.ensures.cases.0)
          ∙ sym (ap primitive c.in-Signal.is);
    }
