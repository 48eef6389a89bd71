-- How firings for which sound attempts stand follow one another, for a class of states.
use Rattle.std.proofs.Common.{◌≡◌, refl, ap, ap₂, sym, ◌∙◌, subst, Bool, true, List, [], ◌∷◌, ◌++◌, append-nil, append_assoc, Some, None}
use Rattle.hp_model.specs.Values.{Veto}
use Rattle.hp_model.specs.Rules.{Library}
use Rattle.hp_model.specs.Tree.{Task}
use Rattle.hp_model.specs.Firing.{Fire, Siblings, after_firing, siblings}
use Rattle.hp_model.specs.Cells.{Changes, over, Read}
use Rattle.hp_model.specs.Soundness.{FiringAnswer}
use Rattle.hp_model.specs.Answers.{SiblingsAnswer, siblings_answer}
use Rattle.hp_model.proofs.Faithful.{Grows, Grows-same, Grows-then, held_before}
use Rattle.hp_model.proofs.FaithfulFirings.{goes_on, went_on}
use Rattle.hp_model.specs.States.{States, LeadsToOne, FaithfulFiringFor, FaithfulSiblingsFor}

module _ (states : States) (library : Library) (fire : Fire) where
  no_siblings : (stops : Bool) {reads : List Read} {writes : Changes} → FaithfulSiblingsFor states library (siblings fire stops []) reads writes writes (record { firings = []; vetoed_by = None })
  no_siblings stops = record { from = λ base held S one is. record { answers = refl; reaches = is; one = one } }

  -- a firing, and the siblings after it
  sibling : (stops : Bool) (t : Task) (ts : List Task) {reads more : List Read} {w0 w1 w2 : Changes} {f : FiringAnswer} {g : SiblingsAnswer}
      → goes_on stops f.vetoed_by ≡ true → Grows reads more
      → FaithfulFiringFor states library (λ S. fire S t) reads w0 w1 f → FaithfulSiblingsFor states library (siblings fire stops ts) more w1 w2 g
      → FaithfulSiblingsFor states library (siblings fire stops (t ∷ ts)) more w0 w2 (record { firings = f ∷ g.firings; vetoed_by = g.vetoed_by })
  sibling stops t ts {reads} {more} {w0} {w1} {w2} {f} {g} on grows p q = record {
    from = λ base held S one is.
        let first = p.from base (held_before grows base held) S one is in
        let rest = q.from base held (fire S t).state first.one first.reaches in
        let still : goes_on stops (fire S t).vetoed_by ≡ true = ap (λ (x : FiringAnswer). goes_on stops x.vetoed_by) first.answers ∙ on in
        subst (λ (s : Siblings). LeadsToOne states library (siblings_answer s) s.state (record { firings = f ∷ g.firings; vetoed_by = g.vetoed_by }) (over base w2))
        (sym (went_on stops (fire S t).vetoed_by (fire S t) (siblings fire stops ts) still))
        (record {
          answers = ap₂ (λ (x : FiringAnswer) (y : SiblingsAnswer). record { firings = x ∷ y.firings; vetoed_by = y.vetoed_by }) first.answers rest.answers;
          reaches = rest.reaches;
          one = rest.one;
        });
  }

  -- a veto stops them
  sibling_vetoes : (t : Task) (ts : List Task) {reads : List Read} {before after : Changes} {f : FiringAnswer} (r : Veto)
      → f.vetoed_by ≡ Some r → FaithfulFiringFor states library (λ S. fire S t) reads before after f
      → FaithfulSiblingsFor states library (siblings fire true (t ∷ ts)) reads before after (record { firings = f ∷ []; vetoed_by = Some r })
  sibling_vetoes t ts {reads} {before} {after} {f} r vetoes p = record {
    from = λ base held S one is.
        let first = p.from base held S one is in
        let now : (fire S t).vetoed_by ≡ Some r = ap (λ (x : FiringAnswer). x.vetoed_by) first.answers ∙ vetoes in
        subst (λ (s : Siblings). LeadsToOne states library (siblings_answer s) s.state (record { firings = f ∷ []; vetoed_by = Some r }) (over base after))
        (sym (ap (λ o. after_firing true o (fire S t) (siblings fire true ts)) now))
        (record { answers = ap (λ (x : FiringAnswer). record { firings = x ∷ []; vetoed_by = Some r }) first.answers; reaches = first.reaches; one = first.one });
  }

  -- whatever the siblings that are left do, with what was done so far it makes the whole
  pub record Completes (stops : Bool) (whole : List Task) (w0 : Changes) (left : List Task) (reads : List Read) (now : Changes) (so_far : List FiringAnswer) : Type 0 where
    pub by : (more : List Read) (after : Changes) (g : SiblingsAnswer) → Grows reads more → FaithfulSiblingsFor states library (siblings fire stops left) more now after g
        → FaithfulSiblingsFor states library (siblings fire stops whole) more w0 after (record { firings = so_far ++ g.firings; vetoed_by = g.vetoed_by })

  pub completes_more : (stops : Bool) (whole : List Task) (w0 : Changes) {t : Task} {ts : List Task} {reads more : List Read} {w1 w2 : Changes} {so_far : List FiringAnswer} {f : FiringAnswer}
      → goes_on stops f.vetoed_by ≡ true → Grows reads more
      → Completes stops whole w0 (t ∷ ts) reads w1 so_far → FaithfulFiringFor states library (λ S. fire S t) more w1 w2 f → Completes stops whole w0 ts more w2 (so_far ++ f ∷ [])
  completes_more stops whole w0 {t} {ts} {reads} {more} {w1} {w2} {so_far} {f} on grows c p = record {
    by = λ most after g grows' q.
        subst (λ fs. FaithfulSiblingsFor states library (siblings fire stops whole) most w0 after (record { firings = fs; vetoed_by = g.vetoed_by })) (sym (append_assoc so_far (f ∷ []) g.firings))
        (c.by most after (record { firings = f ∷ g.firings; vetoed_by = g.vetoed_by }) (Grows-then grows grows') (sibling stops t ts on grows' p q));
  }

  pub completes_end : (stops : Bool) (whole : List Task) (w0 : Changes) {reads : List Read} {w1 : Changes} {so_far : List FiringAnswer} → Completes stops whole w0 [] reads w1 so_far
      → FaithfulSiblingsFor states library (siblings fire stops whole) reads w0 w1 (record { firings = so_far; vetoed_by = None })
  completes_end stops whole w0 {reads} {w1} {so_far} c =
      subst (λ fs. FaithfulSiblingsFor states library (siblings fire stops whole) reads w0 w1 (record { firings = fs; vetoed_by = None })) (append-nil so_far)
      (c.by reads w1 (record { firings = []; vetoed_by = None }) (Grows-same reads) (no_siblings stops))

  pub completes_vetoed : (whole : List Task) (w0 : Changes) {t : Task} {ts : List Task} {reads more : List Read} {w1 w2 : Changes} {so_far : List FiringAnswer} {f : FiringAnswer} (r : Veto)
      → f.vetoed_by ≡ Some r → Grows reads more → Completes true whole w0 (t ∷ ts) reads w1 so_far → FaithfulFiringFor states library (λ S. fire S t) more w1 w2 f
      → FaithfulSiblingsFor states library (siblings fire true whole) more w0 w2 (record { firings = so_far ++ f ∷ []; vetoed_by = Some r })
  completes_vetoed whole w0 {t} {ts} {reads} {more} {w1} {w2} {so_far} {f} r vetoes grows c p =
      c.by more w2 (record { firings = f ∷ []; vetoed_by = Some r }) grows (sibling_vetoes t ts r vetoes p)
