use Rattle.std.proofs.Common.{arith, ap, ◌∙◌, ◌-◌, ◌≤◌, length, take, drop}
use Rattle.std.proofs.lemmas.List.{length-take}
use Rattle.hp_text.specs.Places.{place_view}
use Rattle.hp_model.specs.NotationPlaces.{Place}
use Rattle.hp_text.proofs.Spans.{place_near, from_known}
use Rattle.hp_text.proofs.place.place_from.Goals as goal

pub place_after-requires : goal.place_after-requires
place_after-requires c =
    let text = c.args.text.now in
    let near = place_near text c.args.from in
    let line = ap (λ (p : Place). p.line) c.requires.known in
    let column = ap (λ (p : Place). p.column) c.requires.known in
    let few : length (take (c.args.offset - c.args.from) (drop c.args.from text)) ≤ c.args.offset - c.args.from = simp length-take (omega arith) in
    (omega (arith, near.line, line, few), omega (arith, near.column, column, few))

pub returns : goal.returns
returns c =
    c.place_after.ensures ∙ from_known c.args.text.now c.args.from c.args.offset (place_view c.args.known) c.requires.order c.requires.known
