use Rattle.std.proofs.Common.{◌∙◌, ap}
use Rattle.std.specs.Hash.DefaultHasher as sip
use Rattle.hp_value.specs.Mapped.{class_part}
use Rattle.hp_view.specs.Parts.{attribute_fed, bound_fed, number_of}
use Rattle.hp_view.proofs.part.number.Goals as goal

pub returns : goal.returns
unfolding number_of
returns c =
    let p = class_part c.args.part.now in
    c.finish.ensures
    ∙ ap sip.finish (c.feed_bounds.ensures ∙ ap (λ h. bound_fed p.high (bound_fed p.low h)) (c.feed_attribute.ensures ∙ ap (attribute_fed p.attribute) c.new-hasher.ensures))
