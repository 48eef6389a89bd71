-- Trying the tasks of a wave: what it needs, and what it gives.
use Rattle.std.specs.Prelude.{◌≡◌, Result, All, IfOk, OnOk}
use Rattle.std.specs.Global.{Global}
use Rattle.std.specs.declared.vec.Vec.{Vec}
use Rattle.std.specs.declared.alloc.AllocError.{AllocError}
use denote.Ref.{Bor, MutBor}
use denote.Param.Members.{Shared}
use Rattle.hp_model.specs.Rules.{Library}
use Rattle.hp_rule.specs.Mapped.{library}
use Rattle.hp_view.specs.Seeing.{Seeing}
use Rattle.hp_board.specs.declared.Seat.{Seat}
use Rattle.hp_board.specs.Deal.{IsSeatOf}
use Rattle.hp_attempt.specs.Fronts.{AreSound}
use Rattle.rtrb.specs.declared.consumer.Consumer.{Consumer}
use Rattle.hp_fire.specs.declared.engine.Engine.{Engine}
use Rattle.hp_fire.specs.declared.speculate.workers.Alone.{Alone}
use Rattle.hp_fire.specs.declared.speculate.pending.Tried.{Tried}
use Rattle.hp_fire.specs.declared.speculate.progress.Progress.{Progress}
use Rattle.hp_fire.specs.declared.speculate.wave.Wave.{Wave}
use Rattle.hp_fire.specs.declared.speculate.wave.Job.{Job}
use Rattle.hp_fire.specs.declared.speculate.channel.Sent.{Sent}
use Rattle.hp_fire.specs.declared.speculate.channel.Soundness.{Soundness}
use Rattle.hp_fire.specs.Groups.{AreSoundTries, IsAcceptedWithin, IsWave, IsJob, AreOf, ComesInWave}

abbrev pub Seats : Type 0
Seats = Seat × Vec Job Global

abbrev pub Receivers : Type 0
Receivers = Vec (Consumer Sent Global Soundness) Global

-- what the workers return, and whether memory sufficed to accept attempts
abbrev pub Found : Type 0
Found = Result (Vec (Vec Tried Global) Global) AllocError × Result (Unit {0}) AllocError

-- a wave may be tried
pub record MayTry (lib : Library) (wave : Wave) (seats : Seats) (progress : Progress) (receivers : Receivers) : Type 0 where
  pub wave_is : IsWave wave
  pub seat_is : IsSeatOf wave.board.deal seats.0
  pub jobs_are : All (IsJob lib wave) seats.1.items
  pub channels_are : AreOf lib receivers.items
  pub sound : AreSound lib progress.pending.attempts.items
  pub accepted : IsAcceptedWithin progress

-- a wave has been tried: what was found is sound, and the owner has accepted the front of it on the view
pub record HasTried (lib : Library) (wave : Wave) (old new : Seeing) (before after : Progress) (receivers : Receivers) (found : Found) : Type 0 where
  pub found_sound : IfOk found.0 (λ all. All (λ tries. AreSoundTries lib tries.items) all.items)
  pub comes : OnOk found.1 (ComesInWave lib wave old before new after)
  pub channels_are : AreOf lib receivers.items
  pub waves : after.counts.waves ≡ before.counts.waves

-- a function that tries waves
module _ {F : Type 0} (g : Shared F (Bor (Engine Alone) × (Bor Wave × (Seats × (MutBor Seeing × (MutBor Progress × (MutBor Receivers × Unit {0}))))))
    (Found × (MutBor Seeing × (MutBor Progress × (MutBor Receivers × Unit {0}))))) (f : F) where
  pub record Tries : Type 0 where
    pub may : (e : Bor (Engine Alone)) (w : Bor Wave) (s : Seats) (v : MutBor Seeing) (p : MutBor Progress) (r : MutBor Receivers)
        → MayTry (library e.now.lib.now) w.now s p.now r.now → g.pre f (e, (w, (s, (v, (p, (r, tt))))))
    pub gives : (e : Bor (Engine Alone)) (w : Bor Wave) (s : Seats) (v v' : MutBor Seeing) (p p' : MutBor Progress) (r r' : MutBor Receivers) (found : Found)
        → g.post f (e, (w, (s, (v, (p, (r, tt)))))) (found, (v', (p', (r', tt)))) → HasTried (library e.now.lib.now) w.now v.now v'.now p.now p'.now r'.now found
