use Rattle.std.proofs.Common.{◌≤◌, arith, map, drop, sym, ◌∙◌, ap, subst, Ok, ◌+◌}
use Rattle.std.proofs.Math.ListN.{drop_of_length-le}
use Rattle.std.proofs.lemmas.Result.{err_from_is_err_and}
use Rattle.hp_value.specs.Mapped.{keyed_row, environment, expression}
use Rattle.hp_query.proofs.SelectLemmas.{Counts, counts_at, counts_one, counts_none, counts_fault, counts_last}
use Rattle.hp_query.proofs.query.count_selected.Goals as goal
use Rattle.hp_query.proofs.query.count_selected.Goals.{then-branch, else-branch}

pub returns-in_err-is_selected : goal.returns-in_err-is_selected
returns-in_err-is_selected c =
    let env = environment c.args.asked.now.env.now in
    let x = c.args.asked.now.name.now in
    let predicate = expression c.args.asked.now.predicate.now in
    let all = map keyed_row c.args.objects.now in
    let object = c.object-item.result in
    let p = err_from_is_err_and c.from_residual.result c.from_residual.ensures.1 in
    let at = counts_at env x predicate all c.args.objects.now c.loop-object.object-index object c.loop-object-test.true c.object-item.is c.loop-object.invariant.counts in
    rw (p.1, p.2) (counts_fault env x predicate all (keyed_row object) (map keyed_row (drop (c.loop-object.object-index + 1) c.args.objects.now)) _ at c.in_err-is_selected.ensures)

pub loop-object-preserved : goal.loop-object-preserved
loop-object-preserved c =
    let env = environment c.args.asked.now.env.now in
    let x = c.args.asked.now.name.now in
    let predicate = expression c.args.asked.now.predicate.now in
    let all = map keyed_row c.args.objects.now in
    let object = c.object-item.result in
    let rest = map keyed_row (drop (c.loop-object.object-index + 1) c.args.objects.now) in
    let at = counts_at env x predicate all c.args.objects.now c.loop-object.object-index object c.loop-object-test.true c.object-item.is c.loop-object.invariant.counts in
    let told = c.in_ok-is_selected.ensures in
    let within = c.loop-object.invariant.within in
    elim c.if-branch.branch [
      | then-branch w ↦ record {
        within = subst (λ n. n ≤ c.loop-object.object-index + 1) (sym w.count-is) (omega arith);
        counts = subst (Counts env x predicate all rest) (sym w.count-is) (counts_one env x predicate all (keyed_row object) rest at (ap Ok (sym w.if-branch.true) ∙ told));
      }
      | else-branch w ↦ record {
        within = subst (λ n. n ≤ c.loop-object.object-index + 1) (sym w.count-is) (omega arith);
        counts = subst (Counts env x predicate all rest) (sym w.count-is) (counts_none env x predicate all (keyed_row object) rest at (ap Ok (sym w.if-branch.false) ∙ told));
      }
    ]

pub returns : goal.returns
returns c =
    let env = environment c.args.asked.now.env.now in
    let x = c.args.asked.now.name.now in
    let predicate = expression c.args.asked.now.predicate.now in
    let all = map keyed_row c.args.objects.now in
    counts_last env x predicate all
    (subst (λ left. Counts env x predicate all (map keyed_row left) c.loop-object.count) (drop_of_length-le c.args.objects.now c.loop-object-test.false) c.loop-object.invariant.counts)
