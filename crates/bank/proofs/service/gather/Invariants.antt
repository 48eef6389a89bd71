use Rattle.std.proofs.Common.{◌≡◌, ◌*◌, All, length, vec_len}
use Rattle.hp_sessions.specs.Books.{Stands}
use Rattle.bank.proofs.service.gather.Given as goal

-- the history stays the same, and all receipts so far are in it
abbrev pub invariant-loop-answer : goal.invariant-loop-answer
invariant-loop-answer g l = (l.history ≡ l.initial.history) × All (λ r. Stands l.initial.history.history r) l.all.items × (vec_len l.all ≡ 25 * length l.yielded)
