use Rattle.std.proofs.Common.{ap₂, ◌∙◌}
use Rattle.std.specs.BTreeSet.{keys_between}
use Rattle.hp_store.specs.Parts.{bound_of}
use Rattle.hp_store.specs.Places.{place_cmp}
use Rattle.hp_store.proofs.Placed.{found_between}
use Rattle.hp_store.proofs.index.between.Goals as goal

pub returns : goal.returns
returns c = λ p there within.
    found_between c.args.places.now (bound_of c.args.low) (bound_of c.args.high) c.range.result p
    (c.range.ensures.between tt ∙ ap₂ (λ a b. keys_between place_cmp a b c.args.places.now) c.included.ensures c.included-2.ensures) there within
