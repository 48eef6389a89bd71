-- The progress of a group in a wave.
use Rattle.std.proofs.Common.{arith, ◌⊎◌, inl, inr, ◌≡◌, refl, sym, ap, ◌∙◌, subst, ℕ, ◌+◌, ◌<◌, ◌≤◌, Bool, true, List, length, None}
use Rattle.std.proofs.lemmas.Bool.{cases_lt}
use Rattle.std.specs.List.{slice_index_or}
use Rattle.std.specs.Prelude.{option_map}
use Rattle.hp_value.specs.Mapped.{veto}
use Rattle.hp_model.specs.Rules.{Library}
use Rattle.hp_model.specs.Tree.{Task}
use Rattle.hp_view.specs.Seeing.{Seeing}
use Rattle.hp_attempt.specs.Fronts.{AreSound}
use Rattle.hp_fire.specs.declared.speculate.progress.Progress.{Progress}
use Rattle.hp_fire.specs.declared.speculate.counts.Counts.{Counts}
use Rattle.hp_fire.specs.declared.speculate.settled.Settled.{Settled}
use Rattle.hp_fire.specs.Groups.{IsSoFar, IsRetried, firsts, IsAcceptedWithin, IsCounted, OwesOne, IsAhead, Comes, ComesByWave}

-- only attempts change
ahead_put : (p q : Progress) → q ≡ record p { pending = q.pending } → IsAhead p q
ahead_put p q e =
    let same : length q.settled.outcomes.items ≡ length p.settled.outcomes.items = ap (λ (x : Progress). length x.settled.outcomes.items) e in
    let accepted : q.counts.accepted ≡ p.counts.accepted = ap (λ (x : Progress). x.counts.accepted) e in record {
      longer = omega (arith, same);
      waves = ap (λ (x : Progress). x.counts.waves) e;
      retried = ap (λ (x : Progress). x.counts.retried) e;
      exactly = ap (λ n. n + firsts p.counts.retried.items (length p.settled.outcomes.items)) accepted
          ∙ ap (λ n. p.counts.accepted + firsts p.counts.retried.items n) (sym same);
      accepted = omega (arith, same, accepted);
      reran = λ less is. absurd (omega (arith, same, less));
      none = λ long was. ap (λ (x : Progress). x.settled.end) e ∙ was;
    }

-- the tasks of one step, followed by those of another
ahead_then : (p q r : Progress) → IsAhead p q → IsAhead q r → IsAhead p r
ahead_then p q r a b = record {
  longer = omega (arith, a.longer, b.longer);
  waves = b.waves ∙ a.waves;
  retried = b.retried ∙ a.retried;
  exactly =
      let next = subst (λ rs. r.counts.accepted + firsts rs.items (length q.settled.outcomes.items) ≡ q.counts.accepted + firsts rs.items (length r.settled.outcomes.items))
      a.retried b.exactly in
      omega (arith, a.exactly, next);
  accepted = omega (arith, a.accepted, b.accepted);
  reran = λ less is. by less is (cases_lt (length p.settled.outcomes.items) (length q.settled.outcomes.items));
  none = λ e was.
      let first : length q.settled.outcomes.items ≡ length p.settled.outcomes.items = omega (arith, a.longer, b.longer, e) in
      b.none (omega (arith, first, e)) (a.none first was);
}
  where
    by : length p.settled.outcomes.items < length r.settled.outcomes.items → IsRetried p.counts (length p.settled.outcomes.items)
        → (length p.settled.outcomes.items < length q.settled.outcomes.items) ⊎ (length q.settled.outcomes.items ≤ length p.settled.outcomes.items)
        → r.counts.accepted + length p.settled.outcomes.items < p.counts.accepted + length r.settled.outcomes.items
    by less is (inl early) = let one = a.reran early is in omega (arith, one, b.accepted)
    by less is (inr late) =
        let first : length p.settled.outcomes.items ≡ length q.settled.outcomes.items = omega (arith, a.longer, late) in
        let still : IsRetried q.counts (length q.settled.outcomes.items) =
        subst (IsRetried q.counts) first (subst (λ rs. slice_index_or rs.items (length p.settled.outcomes.items) true ≡ true) (sym a.retried) is) in
        let one = b.reran (omega (arith, first, less)) still in
        omega (arith, one, a.accepted)

-- nothing changes
pub ahead_same : (p : Progress) → IsAhead p p
ahead_same p = ahead_put p p refl

-- the front of the attempts, of this length, is accepted
pub ahead_settled : (p q : Progress) (n : ℕ) → length q.settled.outcomes.items ≡ length p.settled.outcomes.items + n → (n ≡ 0 → q.settled.end ≡ None)
    → (q.counts.waves ≡ p.counts.waves) × (q.counts.retried ≡ p.counts.retried)
    → q.counts.accepted + firsts p.counts.retried.items (length p.settled.outcomes.items) ≡ p.counts.accepted + firsts p.counts.retried.items (length p.settled.outcomes.items + n)
    → q.counts.accepted ≤ p.counts.accepted + n → (0 < n → IsRetried p.counts (length p.settled.outcomes.items) → q.counts.accepted < p.counts.accepted + n) → IsAhead p q
ahead_settled p q n longer none same exactly accepted reran = record {
  longer = omega (arith, longer);
  waves = same.0;
  retried = same.1;
  exactly = exactly ∙ ap (λ m. p.counts.accepted + firsts p.counts.retried.items m) (sym longer);
  accepted = omega (arith, longer, accepted);
  reran = λ less is. let one = reran (omega (arith, longer, less)) is in omega (arith, longer, one);
  none = λ e was. none (omega (arith, longer, e));
}

-- ---- counts

pub within_ahead : (p q : Progress) → IsAcceptedWithin p → IsAhead p q → IsAcceptedWithin q
within_ahead p q within a = omega (arith, within, a.accepted)

pub counted_ahead : (p q : Progress) → IsCounted p → IsAhead p q → IsCounted q
counted_ahead p q counted a = (omega (arith, counted.0, a.accepted), omega (arith, counted.1, a.waves, a.accepted))

-- the owner has run the task that the last wave owes
pub counted_run : (p q : Progress) → OwesOne p → q.counts ≡ p.counts → length q.settled.outcomes.items ≡ length p.settled.outcomes.items + 1 → IsCounted q
counted_run p q owes same longer =
    let accepted : q.counts.accepted ≡ p.counts.accepted = ap (λ (x : Counts). x.accepted) same in
    let waves : q.counts.waves ≡ p.counts.waves = ap (λ (x : Counts). x.waves) same in
    (omega (arith, owes.0, accepted, longer), omega (arith, owes.1, accepted, waves, longer))

module _ {library : Library} {stops : Bool} {tasks : List Task} where
  pub comes_then : {v w x : Seeing} (p q r : Progress) → Comes library stops tasks v p w q → Comes library stops tasks w q x r → Comes library stops tasks v p x r
  comes_then p q r a b = record { ahead = ahead_then p q r a.ahead b.ahead; sound = b.sound; so_far = λ first s. b.so_far first (a.so_far first s) }

  -- attempts are put into places
  pub comes_put : (v : Seeing) (p q : Progress) → q ≡ record p { pending = q.pending } → AreSound library q.pending.attempts.items → Comes library stops tasks v p v q
  comes_put v p q e sound = record {
    ahead = ahead_put p q e;
    sound = sound;
    so_far = λ first s. subst (λ (x : Progress). IsSoFar library stops tasks first v x.settled.outcomes.items (option_map veto x.settled.end)) (sym e) s;
  }

  -- nothing changes
  pub comes_same : (v : Seeing) (p : Progress) → AreSound library p.pending.attempts.items → Comes library stops tasks v p v p
  comes_same v p sound = comes_put v p p refl sound

  -- no wave has begun
  pub wave_none : {v w : Seeing} (p q : Progress) → w ≡ v → q ≡ record p { pending = q.pending } → p.settled.end ≡ None → IsCounted p → AreSound library q.pending.attempts.items
      → ComesByWave library stops tasks v p w q
  wave_none {v} {w} p q same e none counted sound =
      let long : length q.settled.outcomes.items ≡ length p.settled.outcomes.items = ap (λ (x : Progress). length x.settled.outcomes.items) e in
      let accepted : q.counts.accepted ≡ p.counts.accepted = ap (λ (x : Progress). x.counts.accepted) e in
      let waves : q.counts.waves ≡ p.counts.waves = ap (λ (x : Progress). x.counts.waves) e in record {
        longer = omega (arith, long);
        none = λ _. ap (λ (x : Progress). x.settled.end) e ∙ none;
        counted = λ less. absurd (omega (arith, long, less));
        owes = (omega (arith, long, accepted, counted.0), omega (arith, long, accepted, waves, counted.1));
        sound = sound;
        so_far = λ first s.
            subst (λ (x : Seeing). IsSoFar library stops tasks first x q.settled.outcomes.items (option_map veto q.settled.end)) (sym same)
            (subst (λ (x : Progress). IsSoFar library stops tasks first v x.settled.outcomes.items (option_map veto x.settled.end)) (sym e) s);
      }

  -- a wave has run
  pub wave_ran : {v u w : Seeing} (p b q : Progress) → u ≡ v → b.settled ≡ p.settled → (b.counts.accepted ≡ p.counts.accepted) × (b.counts.waves ≡ p.counts.waves + 1)
      → (0 < p.counts.waves → IsRetried b.counts (length p.settled.outcomes.items))
      → p.settled.end ≡ None → IsCounted p → Comes library stops tasks u b w q → ComesByWave library stops tasks v p w q
  wave_ran {v} {u} {w} p b q same settled counts retried none counted came = record {
    longer = omega (arith, long, came.ahead.longer);
    none = λ e. came.ahead.none (omega (arith, long, e)) (ap (λ (s : Settled). s.end) settled ∙ none);
    counted = λ less. by less (cases_lt 0 p.counts.waves);
    owes = (within, omega (arith, counted.1, long, counts.0, counts.1, came.ahead.waves, came.ahead.accepted));
    sound = came.sound;
    so_far = λ first s. came.so_far first
        (subst (λ (x : Seeing). IsSoFar library stops tasks first x b.settled.outcomes.items (option_map veto b.settled.end)) (sym same)
        (subst (λ (x : Settled). IsSoFar library stops tasks first v x.outcomes.items (option_map veto x.end)) (sym settled) s));
  }
    where
      long : length b.settled.outcomes.items ≡ length p.settled.outcomes.items
      long = ap (λ (s : Settled). length s.outcomes.items) settled

      within : IsAcceptedWithin q
      within = omega (arith, counted.0, long, counts.0, came.ahead.accepted)

      by : length p.settled.outcomes.items < length q.settled.outcomes.items → (0 < p.counts.waves) ⊎ (p.counts.waves ≤ 0) → IsCounted q
      by less (inl more) =
          let one = came.ahead.reran (omega (arith, long, less)) (subst (IsRetried b.counts) (sym long) (retried more)) in
          (within, omega (arith, counted.1, long, counts.0, counts.1, came.ahead.waves, one))
      by less (inr first) = (within, omega (arith, within, counts.1, came.ahead.waves, first))
