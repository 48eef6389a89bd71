use Rattle.std.proofs.Common.{◌≡◌, ◌+◌, All, length, vec_len}
use Rattle.hp_sessions.specs.Books.{Stands}
use Rattle.bank.proofs.service.keep.Given as goal

-- the history stays the same, and all receipts so far are in it
abbrev pub invariant-loop-receipt : goal.invariant-loop-receipt
invariant-loop-receipt g l = (l.history ≡ l.initial.history) × All (λ r. Stands l.initial.history.history r) l.all.items × (vec_len l.all ≡ vec_len l.initial.all + length l.yielded)
