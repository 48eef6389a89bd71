use Rattle.std.proofs.Common.{◌≡◌, map, drop, sym, ◌∙◌, ap, subst, ◌++◌, ◌∷◌, [], Ok, ◌+◌, rules}
use Rattle.std.proofs.Math.ListN.{drop_of_length-le}
use Rattle.std.proofs.lemmas.List.{map-append}
use Rattle.std.proofs.lemmas.Result.{err_from_is_err_and}
use Rattle.hp_value.specs.Mapped.{keyed_row, environment, expression}
use Rattle.hp_query.proofs.SelectLemmas.{left_at_first, left_at, left_kept, left_dropped, left_fault, left_nothing, IsLeft}
use Rattle.hp_query.proofs.query.selected.Goals as goal
use Rattle.hp_query.proofs.query.selected.Goals.{then-branch+in_ok-clone+in_ok-map_err, else-branch}

pub loop-object-init : goal.loop-object-init
loop-object-init c =
    let env = environment c.args.asked.now.env.now in
    let x = c.args.asked.now.name.now in
    let predicate = expression c.args.asked.now.predicate.now in
    let all = map keyed_row c.args.objects.now in
    subst (λ rows. IsLeft env x predicate all all (map keyed_row rows)) (sym c.new-rows.ensures.items) (left_at_first env x predicate all)

pub returns-in_err-is_selected : goal.returns-in_err-is_selected
returns-in_err-is_selected c =
    let env = environment c.args.asked.now.env.now in
    let x = c.args.asked.now.name.now in
    let predicate = expression c.args.asked.now.predicate.now in
    let all = map keyed_row c.args.objects.now in
    let object = c.object-item.result in
    let front = map keyed_row c.loop-object.rows.items in
    let p = err_from_is_err_and c.from_residual.result c.from_residual.ensures.1 in
    let at = left_at env x predicate all c.args.objects.now c.loop-object.object-index object front c.loop-object-test.true c.object-item.is c.loop-object.invariant in
    rw (p.1, p.2) (left_fault env x predicate all (keyed_row object) (map keyed_row (drop (c.loop-object.object-index + 1) c.args.objects.now)) front _ at c.in_err-is_selected.ensures)

pub loop-object-preserved : goal.loop-object-preserved
loop-object-preserved c =
    let env = environment c.args.asked.now.env.now in
    let x = c.args.asked.now.name.now in
    let predicate = expression c.args.asked.now.predicate.now in
    let all = map keyed_row c.args.objects.now in
    let object = c.object-item.result in
    let rest = map keyed_row (drop (c.loop-object.object-index + 1) c.args.objects.now) in
    let front = map keyed_row c.loop-object.rows.items in
    let at = left_at env x predicate all c.args.objects.now c.loop-object.object-index object front c.loop-object-test.true c.object-item.is c.loop-object.invariant in
    let told = c.in_ok-is_selected.ensures in
    elim c.if-branch.branch [
      | then-branch+in_ok-clone+in_ok-map_err w ↦
          let pushed : w.push.new.self.items ≡ c.loop-object.rows.items ++ w.in_ok-clone.field-0 ∷ [] = search rules in
          let rows = ap (λ v. map keyed_row v.items) w.rows-is ∙ ap (map keyed_row) pushed ∙ map-append keyed_row c.loop-object.rows.items (w.in_ok-clone.field-0 ∷ [])
          ∙ ap (λ o. front ++ o ∷ []) w.in_ok-clone.ensures.cases in
          subst (IsLeft env x predicate all rest) (sym rows) (left_kept env x predicate all (keyed_row object) rest front at (ap Ok (sym w.if-branch.true) ∙ told))
      | else-branch w ↦
          subst (IsLeft env x predicate all rest) (sym (ap (λ v. map keyed_row v.items) w.rows-is))
          (left_dropped env x predicate all (keyed_row object) rest front at (ap Ok (sym w.if-branch.false) ∙ told))
    ]

pub returns : goal.returns
returns c =
    let env = environment c.args.asked.now.env.now in
    let x = c.args.asked.now.name.now in
    let predicate = expression c.args.asked.now.predicate.now in
    let all = map keyed_row c.args.objects.now in
    let front = map keyed_row c.loop-object.rows.items in
    left_nothing env x predicate all front
    (subst (λ left. IsLeft env x predicate all (map keyed_row left) front) (drop_of_length-le c.args.objects.now c.loop-object-test.false) c.loop-object.invariant)
