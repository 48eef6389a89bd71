use Rattle.std.proofs.Common.{arith, ◌≡◌, ap, ◌∙◌, ◌*◌, ◌/◌}
use Rattle.hp_model.specs.NotationPlaces.{place_of}
use Rattle.hipac_check.proofs.marks.Marks.place.Goals as goal

pub place_from-requires-clause-known : goal.place_from-requires-clause-known
place_from-requires-clause-known c =
    let same : 1024 * (c.args.offset / 1024) ≡ c.args.offset / 1024 * 1024 = omega arith in
    c.in-Some.ensures ∙ ap (place_of c.args.self.now.text.now) same
