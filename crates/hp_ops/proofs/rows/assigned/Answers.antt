use Rattle.std.proofs.Common.{rules, ◌≡◌, ap, sym, ◌∙◌, ◌+◌, [], ◌∷◌, ◌++◌, map, drop, Ok}
use Rattle.std.proofs.lemmas.List.{map_push}
use Rattle.hp_model.specs.Values.{Row, Name}
use Rattle.hp_model.specs.Expressions.{value_of}
use Rattle.hp_model.specs.Firing as model
use Rattle.hp_value.specs.Mapped.{environment, value}
use Rattle.hp_rule.specs.Mapped.{assignment}
use Rattle.hp_ops.specs.declared.rows.Given.{Given}
use Rattle.hp_ops.specs.Given.{given_in}
use Rattle.hp_ops.proofs.Worlds.{split_at}
use Rattle.hp_ops.proofs.GivenRows.{onto, assigned_more}
use Rattle.hp_ops.proofs.rows.assigned.Goals as goal

-- one more value is assigned
pub loop-pair-preserved : goal.loop-pair-preserved
loop-pair-preserved c =
    let i = c.loop-pair.pair-index in
    let pairs = c.args.pairs.now in
    let env = environment c.args.env.now in
    let p = c.pair-item.result in
    let v = value c.in_ok-value.value in
    let before = given_in c.loop-pair.given.items in
    let rest = model.assigned env (map assignment (drop (i + 1) pairs)) in
    let given : Given = record { field = c.as_str-field.result; value = c.in_ok-value.value } in
    let new : c.push.new.self.items ≡ c.loop-pair.given.items ++ given ∷ [] = search rules in
    let is : Ok v ≡ value_of env (assignment p).value = search rules in
    let named : given.field.now ≡ (assignment p).field = search rules in
    ap (λ gs. onto (given_in gs) rest) new
    ∙ ap (λ (r : Row). onto r rest) (map_push (λ (g : Given). (g.field.now, value g.value)) c.loop-pair.given.items given)
    ∙ ap (λ (n : Name). onto (before ++ (n, v) ∷ []) rest) named
    ∙ sym (assigned_more env (assignment p) (map assignment (drop (i + 1) pairs)) before v is)
    ∙ ap (λ ps. onto before (model.assigned env (map assignment ps))) (sym (split_at pairs i p c.loop-pair-test.true c.pair-item.is))
    ∙ c.loop-pair.invariant
