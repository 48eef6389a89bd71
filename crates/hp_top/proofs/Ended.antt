-- The end of top-level transactions on a view.
use Rattle.std.proofs.Common.{arith, ◌≡◌, sym, subst, ℕ, ◌≤◌, length}
use Rattle.hp_model.specs.Rules.{Library}
use Rattle.hp_model.specs.Cascade.{top, top_course}
use Rattle.hp_model.specs.Soundness.{Answer}
use Rattle.hp_model.specs.Answers.{kept, closing_top, TopAnswer, FaithfulTop}
use Rattle.hp_model.proofs.FaithfulTops.{faithful_top}
use Rattle.hp_view.specs.Seeing.{Seeing, written, GoesOn}
use Rattle.hp_fire.specs.Runs as fire
use Rattle.hp_top.specs.Runs.{Continues, Closes, Finishes}

-- the transaction that began at the mark has ended
pub closes_top : (mark : ℕ) {old new : Seeing} (a : Answer) (t : TopAnswer) → ((first : Seeing) → GoesOn first old → length first.undo ≡ mark → fire.Closes first old new a.end) → t ≡ closing_top a
    → Closes mark old new a t
closes_top mark {old} {new} a t ends is = record {
  runs = λ library now depth entered work at so_far.
      let closed = ends entered so_far.goes_on at in
      record {
        goes_on = closed.goes_on;
        faithful =
            subst (λ x. FaithfulTop library (top library now depth work) new.reads (written entered) (written new) x) (sym is)
            (subst (λ w. FaithfulTop library (top library now depth work) new.reads (written entered) w (closing_top a)) (sym closed.writes)
            (subst (λ rs. FaithfulTop library (top library now depth work) rs (written entered) (kept a.end (written entered) (written old)) (closing_top a)) (sym closed.reads)
            (faithful_top now depth work so_far.faithful)));
      };
}

-- the mark stays valid
pub mark_stays : {old new : Seeing} {mark : ℕ} → GoesOn old new → mark ≤ length old.undo → mark ≤ length new.undo
mark_stays on low = omega (arith, on.undo)

pub finished : {library : Library} {now depth mark : ℕ} {first second third : Seeing} {a b : Answer} {t : TopAnswer}
    → Continues library (top_course library now depth) first second a b → Closes mark second third b t → Finishes library now depth mark first third a t
finished {library} {now} {depth} p q = record { runs = λ entered work at so_far. q.runs library now depth entered work at (p.runs entered work so_far) }
