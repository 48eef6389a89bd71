use Rattle.std.proofs.Common.{◌≡◌, ◌∙◌, string_bytes, to_z, of_z, w64, rules}
use Rattle.std.specs.Prelude.{option_map}
use Rattle.hp_store.specs.Mapped.{cell_value}
use Rattle.hp_store.specs.Places.{place_at}
use Rattle.hp_store.proofs.Indexed.{still_in}
use Rattle.hp_store.proofs.index.Index.renew.Goals as goal

pub returns-clause-kept : goal.returns-clause-kept
returns-clause-kept c = λ done k v stands same.
    let one : to_z w64 (of_z w64 c.args.key) ≡ c.args.key = search rules in
    still_in (string_bytes c.enter.new.self.field) c.enter.new.self.places c.leave.new.places c.args.key (option_map (λ x. cell_value x.now) c.args.old) (option_map (λ x. cell_value x.now) c.args.new)
    c.place_in-left.result c.place_in-place.result
    (c.place_in-left.ensures ∙ (λ i. place_at (c.as_str.ensures.value i) (one i) (option_map (λ x. cell_value x.now) c.args.old)))
    (c.place_in-place.ensures ∙ (λ i. place_at (c.as_str-2.ensures.value i) (one i) (option_map (λ x. cell_value x.now) c.args.new)))
    c.leave.ensures.kept k v (c.enter.ensures.kept k v stands) same
