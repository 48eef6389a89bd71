-- Whether two patterns are the same, as a test that is true exactly where they are equal.
use Rattle.std.specs.Prelude.{◌≡◌, refl, Bool, true, false, ◌&&◌, nat_eq, bytes_eq}
use Rattle.std.proofs.Common.{sym, ap}
use mathlib.Core.Bool.{true≢false}
use lib.Pointwise.{bytes_decides}
use Rattle.std.specs.Bool.{Decides}
use Rattle.std.specs.Cmp.{IsEquivalence, decided, unsigned_Decides}
use Rattle.hp_model.specs.Events.{Pattern, on_create, on_update, on_delete, on_signal, on_commit, at_moment, every_moment}

abbrev pub pattern_same : Pattern → Pattern → Bool
pattern_same (on_create c) (on_create d) = nat_eq c d
pattern_same (on_update c) (on_update d) = nat_eq c d
pattern_same (on_delete c) (on_delete d) = nat_eq c d
pattern_same (on_signal s) (on_signal t) = bytes_eq s t
pattern_same on_commit on_commit = true
pattern_same (at_moment t) (at_moment u) = nat_eq t u
pattern_same (every_moment f p) (every_moment g q) = nat_eq f g && nat_eq p q
pattern_same p q = false

both_decide : {P Q R : Type 0} (a b : Bool) → Decides a P → Decides b Q → (P → Q → R) → (R → P × Q) → Decides (a && b) R
both_decide true b p q make split = (λ e. make (p.0 refl) (q.0 e), λ r. q.1 (split r).1)
both_decide false b p q make split = (λ e. absurd (true≢false (sym e)), λ r. p.1 (split r).0)

pub pattern_decides : (p q : Pattern) → Decides (pattern_same p q) (p ≡ q)
pattern_decides (on_create c) (on_create d) = (λ e. ap on_create ((unsigned_Decides c d).0 e), λ e. (unsigned_Decides c d).1 (cc))
pattern_decides (on_update c) (on_update d) = (λ e. ap on_update ((unsigned_Decides c d).0 e), λ e. (unsigned_Decides c d).1 (cc))
pattern_decides (on_delete c) (on_delete d) = (λ e. ap on_delete ((unsigned_Decides c d).0 e), λ e. (unsigned_Decides c d).1 (cc))
pattern_decides (on_signal s) (on_signal t) = (λ e. ap on_signal ((bytes_decides s t).0 e), λ e. (bytes_decides s t).1 (cc))
pattern_decides on_commit on_commit = (λ e. refl, λ e. refl)
pattern_decides (at_moment t) (at_moment u) = (λ e. ap at_moment ((unsigned_Decides t u).0 e), λ e. (unsigned_Decides t u).1 (cc))
pattern_decides (every_moment f p) (every_moment g q) =
    both_decide _ _ (unsigned_Decides f g) (unsigned_Decides p q) (λ e h. cc) (λ e. (cc, cc))
pattern_decides p q = (λ e. cc, λ e. cc)

pub pattern_equiv : IsEquivalence pattern_same
pattern_equiv = decided pattern_same pattern_decides
