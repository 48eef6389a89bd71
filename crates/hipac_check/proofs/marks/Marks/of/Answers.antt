use Rattle.std.proofs.Common.{arith, ◌≡◌, sym, ap, ◌∙◌, ◌+◌, ◌*◌, length, inl, inr}
use Rattle.std.proofs.lemmas.List.{length_push}
use Rattle.std.specs.Prelude.{slice_get}
use Rattle.hp_model.specs.NotationPlaces.{place_of}
use Rattle.hp_text.specs.Places.{place_view}
use Rattle.hp_text.proofs.Spans.{place_first}
use Rattle.hipac_check.proofs.Pushed.{get_pushed}
use Rattle.hipac_check.proofs.marks.Marks.of.Goals as goal

pub loop-from-init : goal.loop-from-init
loop-from-init c = record {
  within = omega arith;
  place = place_first c.args.text.now;
  spans = λ lt. let none : length c.new-places.result.items ≡ 0 = ap length c.new-places.ensures.items in omega (arith, none);
  known = λ k p h. let none = ap (λ xs. slice_get xs k) (sym c.new-places.ensures.items) ∙ h in cc;
}

pub loop-from-preserved : goal.loop-from-preserved
loop-from-preserved c =
    let text = c.args.text.now in
    let places = c.loop-from.places.items in
    let spans : c.loop-from.from ≡ 1024 * length places = c.loop-from.invariant.spans c.loop-from-test.true in
    let more : length c.push.new.self.items ≡ length places + 1 = ap length c.in_ok-push.ensures.items ∙ length_push places c.loop-from.place in
    record {
      within = omega (arith, c.min-next.ensures);
      place = c.place_from-place.ensures;
      spans = λ lt. omega (arith, spans, more, lt, c.min-next.ensures);
      known = λ k p h.
          elim (get_pushed places c.loop-from.place k p (ap (λ xs. slice_get xs k) (sym c.in_ok-push.ensures.items) ∙ h)) [
            | inl old ↦ c.loop-from.invariant.known k p old
            | inr new ↦ let at : c.loop-from.from ≡ 1024 * k = omega (arith, spans, new.0) in ap place_view (sym new.1) ∙ c.loop-from.invariant.place ∙ ap (place_of text) at
          ];
    }
