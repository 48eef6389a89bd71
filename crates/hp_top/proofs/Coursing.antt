-- The course of a top-level transaction: its work, the commit event and the rounds.
use Rattle.std.proofs.Common.{◌≡◌, refl, subst, ℕ, suc, ◌+◌, ◌-◌, ◌<◌, true, false, List, [], ◌∷◌, arith}
use Rattle.hp_model.specs.Rules.{Library}
use Rattle.hp_model.specs.Tree.{Task}
use Rattle.hp_model.specs.Transactions.{End, done, abort_by, veto_by, Work, then_do}
use Rattle.hp_model.specs.Firing.{siblings, fire_task}
use Rattle.hp_model.specs.Cascade.{rounds}
use Rattle.hp_model.specs.Cells.{Changes}
use Rattle.hp_model.specs.Soundness.{Answer}
use Rattle.hp_model.specs.Answers.{SiblingsAnswer, followed, is_done, is_settled, drained_answer, group_answer}
use Rattle.hp_model.proofs.Faithful.{Grows, faithful_then, faithful_halt}
use Rattle.hp_model.proofs.FaithfulTops.{Rounds, rounds_begin, rounds_more, rounds_end, rounds_over}
use Rattle.hp_view.specs.Seeing.{Seeing, written, GoesOn}
use Rattle.hp_view.proofs.Views.{GoesOn-same, GoesOn-then}
use Rattle.hp_fire.specs.Runs.{Runs, RunsGroup}
use Rattle.hp_top.specs.Runs.{Continues, IsRound}

-- a view that continues another has its reads and more
pub grows : {old new : Seeing} → GoesOn old new → Grows old.reads new.reads
grows on = record { others = on.reads.0; are = on.reads.1 }

pub continues_then : {library : Library} {f g : Work → Work} {first second third : Seeing} {a b c : Answer}
    → Continues library f first second a b → Continues library g second third b c → Continues library (λ work. g (f work)) first third a c
continues_then {f = f} p q = record {
  goes_on = GoesOn-then p.goes_on q.goes_on;
  runs = λ entered work so_far. q.runs entered (f work) (p.runs entered work so_far);
}

-- ---- more work

pub continues_done : (next : Work) {library : Library} {old new : Seeing} {a b : Answer} → a.end ≡ done → Runs library next old new b
    → Continues library (λ work S. then_do (work S) next) old new a (followed a b)
continues_done next is p = record {
  goes_on = p.goes_on;
  runs = λ entered work so_far. record {
    goes_on = GoesOn-then so_far.goes_on p.goes_on;
    faithful = faithful_then work next is (grows p.goes_on) so_far.faithful p.faithful;
  };
}

pub continues_halted : (next : Work) {library : Library} {v : Seeing} {a : Answer} → is_done a.end ≡ false → Continues library (λ work S. then_do (work S) next) v v a a
continues_halted next {v = v} halts = record {
  goes_on = GoesOn-same v;
  runs = λ entered work so_far. record { goes_on = so_far.goes_on; faithful = faithful_halt work next halts so_far.faithful };
}

-- ---- rounds

pub one_round : (a : Answer) {library : Library} {old new : Seeing} {g : SiblingsAnswer} → is_settled a.end a.queued ≡ false
    → RunsGroup library (siblings (fire_task library) true a.queued) old new g → IsRound library old new a (followed (drained_answer a) (group_answer g))
one_round a {library} {old} {new} {g} unsettled p = record { goes_on = p.goes_on; more = λ whole w0 left so_far. by whole w0 left a.end a.queued refl refl unsettled so_far }
  where
    by : (whole : Work) (w0 : Changes) (left : ℕ) (e : End) (ts : List Task) → a.end ≡ e → a.queued ≡ ts → is_settled e ts ≡ false
        → Rounds library (fire_task library) whole w0 (suc left) old.reads (written old) a
        → Rounds library (fire_task library) whole w0 left new.reads (written new) (followed (drained_answer a) (group_answer g))
    by whole w0 left done [] is are h so_far = cc
    by whole w0 left done (t ∷ ts) is are h so_far =
        rounds_more library (fire_task library) whole w0 t ts is are (grows p.goes_on) so_far
        (subst (λ queue. RunsGroup library (siblings (fire_task library) true queue) old new g) are p).faithful
    by whole w0 left (abort_by x) ts is are h so_far = cc
    by whole w0 left (veto_by r) ts is are h so_far = cc

-- after some of the most rounds
pub record RoundsLeft (library : Library) (most left : ℕ) (first now : Seeing) (begun so_far : Answer) : Type 0 where
  pub goes_on : GoesOn first now
  pub rounds : (whole : Work) → (w0 : Changes) → Rounds library (fire_task library) whole w0 most first.reads (written first) begun
      → Rounds library (fire_task library) whole w0 left now.reads (written now) so_far

pub rounds_none : (library : Library) (most left : ℕ) (v : Seeing) (a : Answer) → most ≡ left → RoundsLeft library most left v v a a
rounds_none library most left v a all = record {
  goes_on = GoesOn-same v;
  rounds = λ whole w0 so_far. subst (λ n. Rounds library (fire_task library) whole w0 n v.reads (written v) a) all so_far;
}

pub rounds_next : {library : Library} {most i : ℕ} {first now new : Seeing} {begun a b : Answer} → i < most
    → RoundsLeft library most (most - i) first now begun a → IsRound library now new a b → RoundsLeft library most (most - (i + 1)) first new begun b
rounds_next {library} {most} {i} {first} {now} {new} {begun} {a} {b} low p q =
    let left : most - i ≡ suc (most - (i + 1)) = omega arith in
    record {
      goes_on = GoesOn-then p.goes_on q.goes_on;
      rounds = λ whole w0 so_far.
          q.more whole w0 (most - (i + 1)) (subst (λ n. Rounds library (fire_task library) whole w0 n now.reads (written now) a) left (p.rounds whole w0 so_far));
    }

pub rounds_settled : {library : Library} {most left : ℕ} {first now : Seeing} {begun a : Answer} → is_settled a.end a.queued ≡ true → RoundsLeft library most left first now begun a
    → Continues library (λ work S. rounds most (fire_task library) (work S)) first now begun a
rounds_settled {library} {most} {left} {first} {now} {begun} {a} settled p = record {
  goes_on = p.goes_on;
  runs = λ entered work so_far. record {
    goes_on = GoesOn-then so_far.goes_on p.goes_on;
    faithful = rounds_end library (fire_task library) (λ S. rounds most (fire_task library) (work S)) (written entered) settled
        (p.rounds (λ S. rounds most (fire_task library) (work S)) (written entered) (rounds_begin library (fire_task library) most work so_far.faithful));
  };
}

pub rounds_all : {library : Library} {most left : ℕ} {first now : Seeing} {begun a : Answer} → left ≡ 0 → RoundsLeft library most left first now begun a
    → Continues library (λ work S. rounds most (fire_task library) (work S)) first now begun a
rounds_all {library} {most} {left} {first} {now} {begun} {a} over p = record {
  goes_on = p.goes_on;
  runs = λ entered work so_far. record {
    goes_on = GoesOn-then so_far.goes_on p.goes_on;
    faithful = rounds_over library (fire_task library) (λ S. rounds most (fire_task library) (work S)) (written entered)
        (subst (λ n. Rounds library (fire_task library) (λ S. rounds most (fire_task library) (work S)) (written entered) n now.reads (written now) a) over
        (p.rounds (λ S. rounds most (fire_task library) (work S)) (written entered) (rounds_begin library (fire_task library) most work so_far.faithful)));
  };
}
