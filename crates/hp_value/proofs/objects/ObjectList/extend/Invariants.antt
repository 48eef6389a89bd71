use Rattle.std.proofs.Common.{◌≡◌, ◌++◌, drop, map}
use Rattle.std.specs.Prelude.{IsTrue}
use Rattle.hp_value.specs.Mapped.{keyed_row}
use Rattle.hp_value.specs.Rows.{first_names, AreNamed}
use Rattle.hp_value.proofs.objects.ObjectList.extend.Given as goal

abbrev pub invariant-loop-object : goal.invariant-loop-object
invariant-loop-object l = record {
  so_far : l.self ++ map keyed_row (drop l.object-index l.object-items) ≡ l.initial.self ++ map keyed_row l.object-items;
  part : IsTrue l.are_alike → AreNamed (first_names l.other) (map keyed_row l.object-items);
  alike : IsTrue l.are_alike → AreNamed (first_names l.other) l.self;
}
