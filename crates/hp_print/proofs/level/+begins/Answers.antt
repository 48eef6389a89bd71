use Rattle.std.proofs.Common.{◌<◌, ◌≤◌, ◌-◌, sym, subst, false, true, arith}
use Rattle.serde_json.specs.View.{view}
use Rattle.hp_print.specs.Forms.{operator_view}
use Rattle.hp_print.proofs.Beginnings.{begins_operation, low_level, high_level, trivially, otherwise}
use Rattle.hp_print.proofs.level.+begins.Goals as goal

pub returns-then-level-left_level : goal.returns-then-level-left_level
returns-then-level-left_level t c =
    let m = c.args.levels - 1 in
    begins_operation view c.args.opening (operator_view c.in-Some-operator_of.operator) false true c.args.levels m _ _ _ c.left-item.result
    (omega (arith, c.if-levels-eq0.false)) (sym c.in-Some.ensures)
    c.in-len2.len_at_least c.in-len2.len_below c.left-item.is (sym c.in-Some-operator_of.ensures)
    (low_level _ _ _ (subst (λ k. c.level.result < k) c.left_level.ensures c.if-level-left_level.true) (c.level.ensures m)) (trivially c.args.opening _)

pub returns-else-level-left_level : goal.returns-else-level-left_level
returns-else-level-left_level t c =
    let m = c.args.levels - 1 in
    begins_operation view c.args.opening (operator_view c.in-Some-operator_of.operator) c.begins.result false c.args.levels m _ _ _ c.left-item.result
    (omega (arith, c.if-levels-eq0.false)) (sym c.in-Some.ensures)
    c.in-len2.len_at_least c.in-len2.len_below c.left-item.is (sym c.in-Some-operator_of.ensures)
    (high_level _ _ _ (subst (λ k. k ≤ c.level.result) c.left_level.ensures c.if-level-left_level.false) (c.level.ensures m)) (otherwise c.args.opening _ _ c.begins.ensures)
