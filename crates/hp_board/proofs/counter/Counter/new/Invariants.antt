use Rattle.std.proofs.Common.{◌≡◌, ◌+◌, [], vec_items, vec_len}
use Rattle.std.specs.Prelude.{All}
use Rattle.hp_board.specs.Deal.{IsFresh}
use Rattle.hp_board.proofs.counter.Counter.new.Given as goal

-- the first seat's token has a share for each seat that isn't made yet
abbrev pub invariant-loop : goal.invariant-loop
invariant-loop l = record {
  table : l.first.table_id ≡ l.table.shared.table_id;
  slots : l.first.me.1 ≡ [];
  parts : l.first.me.0.parts + l.counter ≡ l.seats + 1;
  numbers : l.first.me.0.numbers ≡ l.numbers;
  drawn : l.first.me.0.drawn ≡ [];
  missed : l.first.me.0.missed ≡ 0;
  made : vec_len l.all + 1 ≡ l.counter;
  fresh : All (IsFresh (record { table = l.table.shared.table_id; numbers = l.numbers; seats = l.seats })) (vec_items l.all);
}
