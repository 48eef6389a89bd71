-- What came of a line is told.
use Rattle.std.proofs.Common.{◌≡◌, sym, subst, ℕ, ℤ, Result, Ok, Err, inl, inr, false, true}
use Rattle.std.specs.Result.{IfOk, OnOk, OnErr}
use Rattle.std.specs.declared.alloc.AllocError.{AllocError}
use Rattle.std.specs.declared.option.Option.{Option}
use Rattle.std.specs.declared.option.Option.TheVariants.{Some}
use denote.RawPtr.{Ptr}
use Rattle.hp_lines.specs.Live as L
use Rattle.hp_live.specs.Sessions.{IsSession}
use Rattle.hp_live.specs.declared.session.Session.{Session}
use Rattle.hp_live.specs.declared.server.Outcome.{Outcome}
use Rattle.hipac_c.specs.Exports.{Told, Answered}

-- by what came
told_of : (gave : Session → Outcome → L.Manner → L.Stage → Type 0) (b c : Session) (came : Result Outcome AllocError) (p : Ptr) (n : ℕ) (s : ℤ)
    → IfOk came (λ o. (m : L.Manner) (now : L.Stage) → IsSession b m now → gave c o m now) → OnOk came (b.lost ≡ false) → OnErr came (c.lost ≡ true)
    → Told c came p n s → Answered gave (Some b) (Some c) p n s
told_of gave b c (Ok o) p n s answer once lost told = inl ((once, (o, told.0, answer)), told.1)
told_of gave b c (Err e) p n s answer once lost told = inr (told.0, lost, told.1)

-- the handle has x before and y after the line; b and c are what x and y have, as calls see them
pub answered : (gave : Session → Outcome → L.Manner → L.Stage → Type 0) (x y : Option Session) (b d c e : Session) (came : Result Outcome AllocError) (p : Ptr) (n : ℕ) (s t : ℤ)
    → x ≡ Some b → d ≡ b → y ≡ Some c → e ≡ c → t ≡ s
    → IfOk came (λ o. (m : L.Manner) (now : L.Stage) → IsSession d m now → gave c o m now) → OnOk came (d.lost ≡ false) → OnErr came (c.lost ≡ true)
    → Told e came p n s → Answered gave x y p n t
answered gave x y b d c e came p n s t ex ed ey ee et answer once lost told =
    subst (λ (q : Option Session). Answered gave q y p n t) (sym ex)
    (subst (λ (q : Option Session). Answered gave (Some b) q p n t) (sym ey)
    (subst (λ (q : ℤ). Answered gave (Some b) (Some c) p n q) (sym et)
    (subst (λ (q : Session). Answered gave (Some q) (Some c) p n s) ed
    (told_of gave d c came p n s answer once lost (subst (λ (q : Session). Told q came p n s) ee told)))))
