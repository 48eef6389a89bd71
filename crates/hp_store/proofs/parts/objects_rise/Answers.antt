use Rattle.std.proofs.Common.{◌≡◌, ◌-◌, get_or, rules, arith}
use Rattle.std.specs.declared.cmp.Ordering.TheVariants.{Less}
use Rattle.std.specs.Ordering.{int_cmp}
use Rattle.hp_store.proofs.Agreed.{adjacent_rise, rising_at}
use Rattle.hp_store.proofs.parts.objects_rise.Goals as goal

pub returns-then-objects-i : goal.returns-then-objects-i
returns-then-objects-i c = (
  λ t. absurd (cc),
  λ rise.
      let less : int_cmp (get_or c.args.objects.now (c.loop-i.i - 1) c.index-objects-i.result).key (get_or c.args.objects.now c.loop-i.i c.index-objects-i-in-loop-i.result).key ≡ Less =
      rising_at c.args.objects.now (c.loop-i.i - 1) c.loop-i.i c.index-objects-i.result c.index-objects-i-in-loop-i.result rise (omega (arith, c.loop-i.auto.i)) c.loop-i-test.true in
      search rules,
)

pub returns : goal.returns
returns c =
    (λ t. adjacent_rise c.args.objects.now (λ k d within. c.loop-i.invariant.so_far k d (omega (arith, within, c.loop-i-test.false))), λ rise. cc)
