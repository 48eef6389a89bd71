use Rattle.std.proofs.Common.{◌≡◌, ◌-◌, pos, get_or, rules, arith}
use Rattle.std.specs.declared.cmp.Ordering.TheVariants.{Less}
use Rattle.std.specs.Ordering.{int_cmp}
use Rattle.std.proofs.lemmas.Cmp.{int_cmp_total}
use Rattle.std.proofs.lemmas.Map.Keys.{Less-from_sorted, sorted_from_all_adjacent}
use Rattle.hp_store.proofs.snapshot.rise.Goals as goal

pub returns-then-keys-i : goal.returns-then-keys-i
returns-then-keys-i c = (
  λ t. absurd (cc),
  λ rise.
      let less : int_cmp (get_or c.args.keys.now (c.loop-i.i - 1) (pos 0)) (get_or c.args.keys.now c.loop-i.i (pos 0)) ≡ Less =
      Less-from_sorted int_cmp c.args.keys.now (c.loop-i.i - 1) c.loop-i.i (pos 0) rise (omega (arith, c.loop-i.auto.i)) c.loop-i-test.true in
      search rules,
)

pub returns : goal.returns
returns c =
    (λ t. sorted_from_all_adjacent int_cmp_total c.args.keys.now (pos 0) (λ k within. c.loop-i.invariant.so_far k (pos 0) (omega (arith, within, c.loop-i-test.false))), λ rise. cc)
