use Rattle.std.proofs.Common.{◌≡◌, ◌<◌}
use Rattle.std.specs.declared.cmp.Ordering.TheVariants.{Less}
use Rattle.std.specs.Ordering.{int_cmp}
use Rattle.std.specs.List.{AllAdjacentBelow}
use Rattle.hp_value.specs.declared.row.KeyedRow.{KeyedRow}
use Rattle.hp_store.proofs.parts.objects_rise.Given as goal

abbrev pub invariant-loop-i : goal.invariant-loop-i
invariant-loop-i l = record {
  first : 0 < l.i;
  so_far : AllAdjacentBelow (λ (x y : KeyedRow). int_cmp x.key y.key ≡ Less) l.objects l.i;
}
