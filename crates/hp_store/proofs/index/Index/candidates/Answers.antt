use Rattle.std.proofs.Common.{◌≡◌, ap₂, ◌∙◌, []}
use Rattle.hp_value.specs.Mapped.{class_part, attribute, low, high}
use Rattle.hp_store.specs.Indexed.{is_between}
use Rattle.hp_store.specs.Parts.{keys_left}
use Rattle.hp_store.proofs.Indexed.{covers_index, none_found}
use Rattle.hp_store.proofs.index.Index.candidates.Goals as goal

pub returns : goal.returns
returns c = λ cells all.
    let same = c.is_of.ensures.0 c.if-not-is_of.false in
    let bounds = c.args.part.now.bounds in
    let none : keys_left c.others-others.result ≡ [] = none_found c.next.result c.is_some.result _ _ c.is_some.ensures c.if-is_some.false c.next.ensures in
    covers_index c.args.self.now bounds (keys_left c.others-others.result) (keys_left c.between.result) c.in-Field.field.now (class_part c.args.part.now) c.args.class cells
    (λ i. record { attribute = attribute (c.in-Field.is i); low = low bounds; high = high bounds }) none c.others-others.ensures
    (λ q there within. c.between.ensures q there (ap₂ (λ l h. is_between l h q) c.place_bounds-low.ensures.low c.place_bounds-low.ensures.high ∙ within)) same.0 same.1 all
