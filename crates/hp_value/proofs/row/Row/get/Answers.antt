use Rattle.std.proofs.Common.{◌∙◌, ap, arith, slice_get}
use Rattle.hp_model.specs.Values.{Row}
use Rattle.hp_value.proofs.Rows.{get_found, get_past}
use Rattle.hp_value.proofs.row.Row.get.Goals as goal

pub returns-in_err-f : goal.returns-in_err-f
returns-in_err-f c =
    rw c.from_residual.ensures
    (get_past c.parts.result.0.now c.parts.result.1.now c.args.i (omega (arith, c.in_err-f.ensures.lookup)) ∙ ap (λ (r : Row). slice_get r c.args.i) c.parts.ensures)

pub returns-in_err-v : goal.returns-in_err-v
returns-in_err-v c =
    rw c.from_residual-in_err-v.ensures
    (get_past c.parts.result.0.now c.parts.result.1.now c.args.i (omega (arith, c.in_err-v.ensures.lookup)) ∙ ap (λ (r : Row). slice_get r c.args.i) c.parts.ensures)

pub returns : goal.returns
returns c =
    let in_f = c.in_ok-f.ensures.lookup in
    let in_v = c.in_ok-v.ensures.lookup in
    rw c.as_str.ensures.value
    (get_found c.parts.result.0.now c.parts.result.1.now c.args.i c.in_ok-f.f.now c.in_ok-v.v.now (omega (arith, in_f)) in_f.1 (omega (arith, in_v)) in_v.1
    ∙ ap (λ (r : Row). slice_get r c.args.i) c.parts.ensures)
