use Rattle.std.proofs.Common.{rules, arith, ◌≡◌, ◌≤◌, ap, sym, ◌∙◌, ◌+◌, [], ◌∷◌, ◌++◌, map, drop, take, length, Ok}
use Rattle.std.proofs.lemmas.List.{take_more, length_push, length-take-le}
use Rattle.hp_model.specs.Firing as model
use Rattle.hp_value.specs.Mapped.{field, row_of, value}
use Rattle.hp_ops.specs.Given.{given_in, value_given}
use Rattle.hp_ops.proofs.Worlds.{split_at}
use Rattle.hp_ops.proofs.GivenRows.{onto, made_more, row_of_push}
use Rattle.hp_ops.proofs.rows.made_row.Goals as goal

pub loop-f-preserved : goal.loop-f-preserved
loop-f-preserved c =
    let i = c.loop-f.f-index in
    let f = c.f-item.result in
    let v = c.in_ok-clone.field-0 in
    let values = c.loop-f.values.items in
    let given = given_in c.args.given.now in
    let rest = map field (drop (c.loop-f.f-index + 1) c.deref-f-items.result.now) in
    let new : c.push.new.self.items ≡ c.loop-f.values.items ++ c.in_ok-clone.field-0 ∷ [] = search rules in
    let is : Ok (value c.in_ok-clone.field-0) ≡ value_given (field c.f-item.result) (given_in c.args.given.now) = search rules in
    let low : c.loop-f.f-index ≤ length c.deref-f-items.result.now = omega arith in
    record {
      so_far =
          ap (λ vs. onto (row_of (take (i + 1) c.deref-f-items.result.now) vs) (model.made_row rest given)) new
          ∙ ap (λ fs. onto (row_of fs (values ++ v ∷ [])) (model.made_row rest given)) (take_more c.deref-f-items.result.now i f c.loop-f-test.true
          ∙ ap (λ x. take i c.deref-f-items.result.now ++ x ∷ []) (sym c.f-item.is))
          ∙ ap (λ r. onto r (model.made_row rest given)) (row_of_push (take i c.deref-f-items.result.now) values f v (c.loop-f.invariant.one_each
          ∙ sym (length-take-le i c.deref-f-items.result.now low)))
          ∙ sym (made_more (field f) rest given (row_of (take i c.deref-f-items.result.now) values) (value v) is)
          ∙ ap (λ fs. onto (row_of (take i c.deref-f-items.result.now) values) (model.made_row (map field fs) given)) (sym (split_at c.deref-f-items.result.now i f c.loop-f-test.true c.f-item.is))
          ∙ c.loop-f.invariant.so_far;
      one_each = ap length new ∙ length_push values v ∙ ap (λ n. n + 1) c.loop-f.invariant.one_each;
    }
