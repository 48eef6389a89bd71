use Rattle.std.proofs.Common.{sym, ap, ◌∙◌, subst, None}
use Rattle.hp_attempt.specs.Fronts.{AreSound}
use Rattle.hp_fire.proofs.Helping.{sound_set}
use Rattle.hp_fire.proofs.speculate.pending.Pending.drop_first_and_stale.Goals as goal
use Rattle.hp_fire.proofs.speculate.pending.Pending.drop_first_and_stale.Goals.{then-slot-eq0, else-slot-eq0+else-not-may_stand}

pub loop-slot-preserved : goal.loop-slot-preserved
loop-slot-preserved c = elim c.if-slot-eq0.branch [
  | then-slot-eq0 w ↦ (
    ap (λ s. s.attempts.len) w.self-is ∙ c.loop-slot.invariant.0,
    λ library all. subst (λ s. AreSound library s.attempts.items) (sym w.self-is) (sound_set library c.loop-slot.self.attempts.items c.loop-slot.slot None (c.loop-slot.invariant.1 library all) tt),
  )
  | else-slot-eq0+else-not-may_stand w ↦ (
    ap (λ s. s.attempts.len) w.self-is ∙ c.loop-slot.invariant.0,
    λ library all. subst (λ s. AreSound library s.attempts.items) (sym w.self-is) (c.loop-slot.invariant.1 library all),
  )
]
