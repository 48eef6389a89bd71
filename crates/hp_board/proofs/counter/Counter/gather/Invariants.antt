use Rattle.std.proofs.Common.{◌≡◌, ℕ, ◌+◌, ◌<◌, [], cond, vec_items, vec_len}
use Rattle.std.specs.Prelude.{All}
use Rattle.hp_board.specs.Deal.{IsSeatOf, times, times_in, total}
use Rattle.hp_board.proofs.counter.Counter.gather.Given as goal

-- the first token holds what the seats joined so far have drawn, and the others are left
abbrev pub invariant-loop-seat : goal.invariant-loop-seat
invariant-loop-seat l = record {
  table : l.first.table_id ≡ l.self.table;
  slots : l.first.me.1 ≡ [];
  some : 0 < l.first.me.0.parts;
  parts : l.first.me.0.parts + vec_len l.seats ≡ vec_len l.fn.seats;
  drawn : (x : ℕ) → times x l.first.me.0.drawn + times_in x (vec_items l.seats) ≡ times_in x (vec_items l.fn.seats);
  missed : l.first.me.0.missed + total (λ t. cond t.done 1 0) (vec_items l.seats) ≡ total (λ t. cond t.done 1 0) (vec_items l.fn.seats);
  seats : All (IsSeatOf l.self) (vec_items l.seats);
}

abbrev pub decreases-loop-seat : goal.decreases-loop-seat
decreases-loop-seat l = goal.left-loop-seat l
