use Rattle.std.proofs.Common.{◌≡◌, Some, All, vec_len}
use Rattle.hp_sessions.specs.Books.{session_of}
use Rattle.bank.proofs.service.call.Given as goal

-- one receipt for each request so far, all of this session
abbrev pub invariant-loop-turn : goal.invariant-loop-turn
invariant-loop-turn g l = (l.session.number ≡ l.number) × All (λ r. session_of r ≡ Some l.number) l.receipts.items × (vec_len l.receipts ≡ l.turn)
