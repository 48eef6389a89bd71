use Rattle.std.proofs.Common.{◌≡◌, ℕ, ◌+◌, suc, arith, ap, ◌∙◌, sym, bytes_eq, drop, false, string_bytes}
use Rattle.std.specs.Map.{lookup}
use Rattle.hp_value.specs.Rows.{row_of}
use Rattle.hp_value.proofs.Rows.{lookup_next}
use Rattle.hp_value.proofs.row.find_value.Goals as goal

pub loop-i-preserved : goal.loop-i-preserved
loop-i-preserved c =
    let f = c.index-fields-i.result in
    let i = c.loop-i.i in
    let fs = c.args.fields.now in
    let vs = c.args.values.now in
    let x = c.args.name.now in
    let e : suc i ≡ i + 1 = omega arith in
    let other : bytes_eq x (string_bytes f.name) ≡ false = cc in
    ap (λ (j : ℕ). lookup (bytes_eq x) (row_of (drop j fs) (drop j vs))) (sym e)
    ∙ (lookup_next x fs vs i f c.loop-i-test.true c.index-fields-i.is other ∙ c.loop-i.invariant)
