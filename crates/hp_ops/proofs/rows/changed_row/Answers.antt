use Rattle.std.proofs.Common.{rules, arith, ◌≡◌, ap, sym, subst, ◌∙◌, ◌<◌, ◌≤◌, [], ◌∷◌, ◌++◌, map, take, length, Some}
use Rattle.std.proofs.lemmas.List.{take_all, map_push}
use Rattle.std.specs.Prelude.{slice_get, unwrap_or, bytes_eq, IfOk}
use Rattle.std.specs.Map.{lookup}
use Rattle.smallvec.specs.SmallVec.{SmallVec}
use Rattle.hp_value.specs.declared.value.Value.{Value}
use Rattle.hp_value.specs.Mapped.{value}
use Rattle.hp_value.specs.Rows.{renewed}
use Rattle.hp_ops.specs.Given.{given_in}
use Rattle.hp_ops.proofs.GivenRows.{changed_values, changed_more, within, renewed_is}
use Rattle.hp_ops.proofs.rows.changed_row.Goals as goal
use Rattle.hp_ops.proofs.rows.changed_row.Goals.{in-Some+in_ok-clone+in_ok-push, in_default}

pub loop-i-preserved : goal.loop-i-preserved
loop-i-preserved c = elim c.match-get.branch [
  | in-Some+in_ok-clone+in_ok-push w ↦
      let given = given_in c.args.given.now in
      let new : w.push.new.self.items ≡ c.loop-i.values.items ++ w.in_ok-clone.field-0 ∷ [] = w.in_ok-push.ensures.ok in
      let got : Some (w.in-Some.name.now, value w.in-Some.value.now) ≡ slice_get c.args.old.now c.loop-i.i = w.in-Some.ensures in
      let is : value w.in_ok-clone.field-0 ≡ unwrap_or (lookup (bytes_eq w.in-Some.name.now) (given_in c.args.given.now)) (value w.in-Some.value.now) = search rules in
      ap (λ (vs : SmallVec Value). map value vs.items) w.values-is ∙ ap (map value) new ∙ map_push value c.loop-i.values.items w.in_ok-clone.field-0
      ∙ ap (λ vs. vs ++ value w.in_ok-clone.field-0 ∷ []) c.loop-i.invariant ∙ ap (λ x. changed_values given (take c.loop-i.i c.args.old.now) ++ x ∷ []) is
      ∙ sym (changed_more given c.args.old.now c.loop-i.i w.in-Some.name.now (value w.in-Some.value.now) got)
  | in_default w ↦
      let low : c.loop-i.i < length c.args.old.now = omega arith in
      absurd (within c.args.old.now c.loop-i.i w.in_default.ensures low)
]

pub returns : goal.returns
returns c =
    let past : length c.args.old.now ≤ c.loop-i.i = omega arith in
    let given = given_in c.args.given.now in
    subst (λ x. IfOk c.with_values.result (λ r. r ≡ x))
    (ap (renewed c.args.old.now) (c.loop-i.invariant ∙ ap (changed_values given) (take_all c.loop-i.i c.args.old.now past)) ∙ renewed_is given c.args.old.now) c.with_values.ensures
