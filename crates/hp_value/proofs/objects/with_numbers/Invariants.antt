use Rattle.std.proofs.Common.{◌≡◌, ◌++◌, drop, map}
use Rattle.hp_model.specs.Values.{integer}
use Rattle.hp_value.specs.Mapped.{value}
use Rattle.hp_value.proofs.objects.with_numbers.Given as goal

-- the numbers so far, and then the rest of the values, are the numbers before and then all of the values
abbrev pub invariant-loop-value : goal.invariant-loop-value
invariant-loop-value l =
    map integer l.numbers.items ++ map value (drop l.value-index l.value-items)
    ≡ map integer l.initial.numbers.items ++ map value l.value-items
