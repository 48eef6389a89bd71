-- How faithful calls compose to firings, groups and signals.
use Rattle.std.proofs.Common.{◌≡◌, refl, ap, ap₂, sym, ◌∙◌, subst, ℕ, suc, Bool, true, false, List, [], ◌∷◌, ◌++◌, map, Option, Some, None, append-nil, append_assoc, ◌≤◌, ◌<◌}
use Rattle.std.specs.Prelude.{filter}
use Rattle.hp_model.specs.Values.{Veto, depth_exceeded}
use Rattle.hp_model.specs.Occurrences.{Primitive}
use Rattle.hp_model.specs.Rules.{is_immediate, Library, rule_at}
use Rattle.hp_model.specs.State.{State, extended}
use Rattle.hp_model.specs.Conditions.{Findings, Verdict, verdict}
use Rattle.hp_model.specs.Tree.{condition_step, Task, no_items, node, append, Node, committed, without_detachments}
use Rattle.hp_model.specs.Transactions.{End, done, abort_by, veto_by, Course, closed_by, placed, detached_of}
use Rattle.hp_model.specs.Firing.{Firing, Fire, Siblings, after_firing, siblings, queued_by, detached_by, items_of, end_of, course_of, Level, triggered, start, signal_in}
use Rattle.hp_model.specs.Firing.{action_veto, firing_with, inert, idle, task_environment, action_course, run_action, deferring, decide, take_step, level_at, fire_task}
use Rattle.hp_model.specs.Cells.{Changes, over, Read}
use Rattle.hp_model.specs.Soundness.{Answer, answer_of, FiringAnswer, firing_answer, LeadsTo, Faithful}
use Rattle.hp_model.specs.Answers.{FaithfulWork, FaithfulFiring, SiblingsAnswer, siblings_answer, FaithfulSiblings, Finds, ended, placing, followed, kept, closing_action, standing}
use Rattle.hp_model.specs.Answers.{handing_on, queued_in, detached_in, items_in, group_answer}
use Rattle.hp_model.proofs.Levels.{below_fires, below_none, below_some}
use Rattle.hp_model.proofs.Faithful.{Grows, Grows-same, Grows-then, held_before, without-append, without-detachments, faithful_ends, faithful_placed, firing_found, faithful_then}
use Rattle.hp_model.proofs.Faithful.{closed_cells, closed_ordered}

-- ---- firings

pub faithful_idle : (what : Node) {library : Library} {reads : List Read} {writes : Changes} → FaithfulFiring library (idle what) reads writes writes (handing_on what [])
faithful_idle what = record { from = λ base held S ordered is. record { answers = refl; reaches = is; ordered = ordered } }

-- the same where the firing may veto
pub faithful_inert : (what : Node) (v : Option Veto) {library : Library} {reads : List Read} {writes : Changes} → FaithfulFiring library (inert what v) reads writes writes (standing what v)
faithful_inert what v = record { from = λ base held S ordered is. record { answers = refl; reaches = is; ordered = ordered } }

pub faithful_deferring : (what : Node) (ts : List Task) {library : Library} {reads : List Read} {writes : Changes}
    → FaithfulFiring library (λ S. deferring what (placed ts S)) reads writes writes (handing_on what ts)
faithful_deferring what ts {library} = record {
  from = λ base held S ordered is. record {
    answers = λ i. record { vetoed_by = None; queued = (placed ts S).queued; detached = (placed ts S).detached; items = node what committed (without-detachments (detached_of ts) i) no_items };
    reaches = is;
    ordered = ordered;
  };
}

closed_firing : (what : Node) (b : Bool) (rule : ℕ) (e : End) (S : State) (c : Course)
    → firing_answer (firing_with what (closed_by e S c) (action_veto b rule e)) ≡ closing_action what b rule
    (record { end = e; queued = c.queued; detached = c.detached; items = without_detachments c.items })
closed_firing what b rule done S c = refl
closed_firing what b rule (abort_by x) S c = refl
closed_firing what b rule (veto_by r) S c = refl

-- an action, as a subtransaction
pub faithful_action : (what : Node) (level : Level) (t : Task) (found : Findings) {library : Library} {reads : List Read} {before after : Changes} {a : Answer}
    → FaithfulWork library (action_course level t found) reads before after a
    → FaithfulFiring library (run_action what level t found) reads before (kept a.end before after) (closing_action what (rule_at level.library t.rule).closed t.rule a)
faithful_action what level t found {library} {reads} {before} {after} {a} p = record {
  from = λ base held S ordered is.
      let c = action_course level t found S in
      let first = p.from base held S ordered is in
      let same_end : c.end ≡ a.end = ap (λ (x : Answer). x.end) first.answers in
      record {
        answers = closed_firing what (rule_at level.library t.rule).closed t.rule c.end S c ∙ ap (closing_action what (rule_at level.library t.rule).closed t.rule) first.answers;
        reaches = closed_cells library c.end S c base before after is first.reaches ∙ ap (λ e. over base (kept e before after)) same_end;
        ordered = closed_ordered library c.end S c ordered first.ordered;
      };
}

-- a condition's firing depends on its verdict
pub faithful_condition : (level : Level) (t : Task) {library : Library} {reads : List Read} {before after : Changes} {a : FiringAnswer} (v : Verdict)
    → Finds library (λ S. verdict S.objects (task_environment t) (rule_at level.library t.rule).condition) reads before v
    → FaithfulFiring library (decide v level t) reads before after a → FaithfulFiring library (take_step condition_step level t) reads before after a
faithful_condition level t v finds p = firing_found (λ v. decide v level t) finds p

-- ---- siblings

pub faithful_no_siblings : (fire : Fire) (stops : Bool) {library : Library} {reads : List Read} {writes : Changes}
    → FaithfulSiblings library (siblings fire stops []) reads writes writes (record { firings = []; vetoed_by = None })
faithful_no_siblings fire stops = record { from = λ base held S ordered is. record { answers = refl; reaches = is; ordered = ordered } }

-- a firing after which the siblings go on
abbrev pub goes_on : Bool → Option Veto → Bool
goes_on true (Some r) = false
goes_on true None = true
goes_on false v = true

pub went_on : (stops : Bool) (v : Option Veto) (f : Firing) (rest : State → Siblings) → goes_on stops v ≡ true
    → after_firing stops v f rest ≡ record { firings = f ∷ (rest f.state).firings; state = (rest f.state).state; vetoed_by = (rest f.state).vetoed_by }
went_on true (Some r) f rest h = cc
went_on true None f rest h = refl
went_on false v f rest h = refl

pub faithful_sibling : (fire : Fire) (stops : Bool) (t : Task) (ts : List Task) {library : Library} {reads more : List Read} {w0 w1 w2 : Changes} {f : FiringAnswer} {g : SiblingsAnswer}
    → goes_on stops f.vetoed_by ≡ true → Grows reads more
    → FaithfulFiring library (λ S. fire S t) reads w0 w1 f → FaithfulSiblings library (siblings fire stops ts) more w1 w2 g
    → FaithfulSiblings library (siblings fire stops (t ∷ ts)) more w0 w2 (record { firings = f ∷ g.firings; vetoed_by = g.vetoed_by })
faithful_sibling fire stops t ts {library} {reads} {more} {w0} {w1} {w2} {f} {g} on grows p q = record {
  from = λ base held S ordered is.
      let first = p.from base (held_before grows base held) S ordered is in
      let rest = q.from base held (fire S t).state first.ordered first.reaches in
      let after = siblings fire stops ts (fire S t).state in
      let still : goes_on stops (fire S t).vetoed_by ≡ true = ap (λ (x : FiringAnswer). goes_on stops x.vetoed_by) first.answers ∙ on in
      subst (λ (s : Siblings). LeadsTo library (siblings_answer s) s.state (record { firings = f ∷ g.firings; vetoed_by = g.vetoed_by }) (over base w2))
      (sym (went_on stops (fire S t).vetoed_by (fire S t) (siblings fire stops ts) still))
      (record {
        answers = ap₂ (λ (x : FiringAnswer) (y : SiblingsAnswer). record { firings = x ∷ y.firings; vetoed_by = y.vetoed_by }) first.answers rest.answers;
        reaches = rest.reaches;
        ordered = rest.ordered;
      });
}

vetoed_last : (v : Option Veto) (r : Veto) (f : Firing) (rest : State → Siblings) → v ≡ Some r → after_firing true v f rest ≡ record { firings = f ∷ []; state = f.state; vetoed_by = Some r }
vetoed_last v r f rest is = ap (λ o. after_firing true o f rest) is

-- a veto stops them
pub faithful_sibling_vetoes : (fire : Fire) (t : Task) (ts : List Task) {library : Library} {reads : List Read} {before after : Changes} {f : FiringAnswer} (r : Veto)
    → f.vetoed_by ≡ Some r → FaithfulFiring library (λ S. fire S t) reads before after f
    → FaithfulSiblings library (siblings fire true (t ∷ ts)) reads before after (record { firings = f ∷ []; vetoed_by = Some r })
faithful_sibling_vetoes fire t ts {library} {reads} {before} {after} {f} r vetoes p = record {
  from = λ base held S ordered is.
      let first = p.from base held S ordered is in
      let now : (fire S t).vetoed_by ≡ Some r = ap (λ (x : FiringAnswer). x.vetoed_by) first.answers ∙ vetoes in
      subst (λ (s : Siblings). LeadsTo library (siblings_answer s) s.state (record { firings = f ∷ []; vetoed_by = Some r }) (over base after))
      (sym (vetoed_last (fire S t).vetoed_by r (fire S t) (siblings fire true ts) now))
      (record { answers = ap (λ (x : FiringAnswer). record { firings = x ∷ []; vetoed_by = Some r }) first.answers; reaches = first.reaches; ordered = first.ordered });
}

-- the loop over the tasks of a group: whatever the rest does, with what was done so far it makes the whole
module _ (library : Library) (fire : Fire) (stops : Bool) (whole : List Task) (w0 : Changes) where
  pub record GroupCompletes (left : List Task) (reads : List Read) (now : Changes) (so_far : List FiringAnswer) : Type 0 where
    pub by : (more : List Read) (after : Changes) (g : SiblingsAnswer) → Grows reads more → FaithfulSiblings library (siblings fire stops left) more now after g
        → FaithfulSiblings library (siblings fire stops whole) more w0 after (record { firings = so_far ++ g.firings; vetoed_by = g.vetoed_by })

  pub group_more : {t : Task} {ts : List Task} {reads more : List Read} {w1 w2 : Changes} {so_far : List FiringAnswer} {f : FiringAnswer} → goes_on stops f.vetoed_by ≡ true → Grows reads more
      → GroupCompletes (t ∷ ts) reads w1 so_far → FaithfulFiring library (λ S. fire S t) more w1 w2 f → GroupCompletes ts more w2 (so_far ++ f ∷ [])
  group_more {t} {ts} {reads} {more} {w1} {w2} {so_far} {f} on grows c p = record {
    by = λ most after g grows' q.
        subst (λ fs. FaithfulSiblings library (siblings fire stops whole) most w0 after (record { firings = fs; vetoed_by = g.vetoed_by })) (sym (append_assoc so_far (f ∷ []) g.firings))
        (c.by most after (record { firings = f ∷ g.firings; vetoed_by = g.vetoed_by }) (Grows-then grows grows') (faithful_sibling fire stops t ts on grows' p q));
  }

  pub group_end : {reads : List Read} {w1 : Changes} {so_far : List FiringAnswer} → GroupCompletes [] reads w1 so_far
      → FaithfulSiblings library (siblings fire stops whole) reads w0 w1 (record { firings = so_far; vetoed_by = None })
  group_end {reads} {w1} {so_far} c =
      subst (λ fs. FaithfulSiblings library (siblings fire stops whole) reads w0 w1 (record { firings = fs; vetoed_by = None })) (append-nil so_far)
      (c.by reads w1 (record { firings = []; vetoed_by = None }) (Grows-same reads) (faithful_no_siblings fire stops))

pub group_vetoed : (library : Library) (fire : Fire) (whole : List Task) (w0 : Changes) {t : Task} {ts : List Task} {reads more : List Read} {w1 w2 : Changes}
    {so_far : List FiringAnswer} {f : FiringAnswer} (r : Veto)
    → f.vetoed_by ≡ Some r → Grows reads more → GroupCompletes library fire true whole w0 (t ∷ ts) reads w1 so_far → FaithfulFiring library (λ S. fire S t) more w1 w2 f
    → FaithfulSiblings library (siblings fire true whole) more w0 w2 (record { firings = so_far ++ f ∷ []; vetoed_by = Some r })
group_vetoed library fire whole w0 {t} {ts} {reads} {more} {w1} {w2} {so_far} {f} r vetoes grows c p =
    c.by more w2 (record { firings = f ∷ []; vetoed_by = Some r }) grows (faithful_sibling_vetoes fire t ts r vetoes p)

-- ---- a group in the transaction around it

queued_answer : (fs : List Firing) → queued_by fs ≡ queued_in (map firing_answer fs)
queued_answer [] = refl
queued_answer (f ∷ fs) = ap (λ ts. f.queued ++ ts) (queued_answer fs)

detached_answer : (fs : List Firing) → detached_by fs ≡ detached_in (map firing_answer fs)
detached_answer [] = refl
detached_answer (f ∷ fs) = ap (λ ds. f.detached ++ ds) (detached_answer fs)

items_answer : (fs : List Firing) → without_detachments (items_of fs) ≡ items_in (map firing_answer fs)
items_answer [] = refl
items_answer (f ∷ fs) = without-append f.items (items_of fs) ∙ ap (append (without_detachments f.items)) (items_answer fs)

pub course_answer : (g : Siblings) → answer_of (course_of g) ≡ group_answer (siblings_answer g)
course_answer g i = record { end = end_of g.vetoed_by; queued = queued_answer g.firings i; detached = detached_answer g.firings i; items = items_answer g.firings i }

pub faithful_group : (group : State → Siblings) {library : Library} {reads : List Read} {before after : Changes} {g : SiblingsAnswer}
    → FaithfulSiblings library group reads before after g → FaithfulWork library (λ S. course_of (group S)) reads before after (group_answer g)
faithful_group group p = record {
  from = λ base held S ordered is.
      let all = p.from base held S ordered is in
      record { answers = course_answer (group S) ∙ ap group_answer all.answers; reaches = all.reaches; ordered = all.ordered };
}

-- ---- signals

-- all tasks of a depth
abbrev pub AreAt : ℕ → List Task → Type 0
AreAt depth [] = Unit {0}
AreAt depth (t ∷ ts) = (t.depth ≡ depth) × AreAt depth ts

siblings_same : (library : Library) (now d : ℕ) (f : Fire) (stops : Bool) (ts : List Task) (S : State) → (level_at library now d).below ≡ Some f → AreAt (suc d) ts
    → siblings f stops ts S ≡ siblings (fire_task library) stops ts S
siblings_same library now d f stops [] S is at = refl
siblings_same library now d f stops (t ∷ ts) S is at =
    ap (λ (x : Firing). after_firing stops x.vetoed_by x (siblings f stops ts)) (below_fires library now d f S t is at.0)
    ∙ ap (after_firing stops (fire_task library S t).vetoed_by (fire_task library S t)) (λ i S'. siblings_same library now d f stops ts S' is at.1 i)

-- no task of a signal or of a statement starts
pub faithful_start_none : (below : Option Fire) {library : Library} {reads : List Read} {writes : Changes} → FaithfulWork library (start below []) reads writes writes (ended done)
faithful_start_none below = faithful_ends done

-- the tasks would be too deep
pub faithful_start_deep : (now d : ℕ) (t : Task) (ts : List Task) {library : Library} {reads : List Read} {writes : Changes} → library.depth_limit ≤ d
    → FaithfulWork library (start (level_at library now d).below (t ∷ ts)) reads writes writes (ended (abort_by depth_exceeded))
faithful_start_deep now d t ts {library} {reads} {writes} deep =
    subst (λ b. FaithfulWork library (start b (t ∷ ts)) reads writes writes (ended (abort_by depth_exceeded))) (sym (below_none library now d deep)) (faithful_ends (abort_by depth_exceeded))

-- the tasks are placed, and the immediate ones fire as siblings
pub faithful_start : (now d : ℕ) (t : Task) (ts : List Task) {library : Library} {reads : List Read} {before after : Changes} {g : SiblingsAnswer} → d < library.depth_limit
    → AreAt (suc d) (filter (λ (u : Task). is_immediate u.place) (t ∷ ts))
    → FaithfulSiblings library (siblings (fire_task library) true (filter (λ (u : Task). is_immediate u.place) (t ∷ ts))) reads before after g
    → FaithfulWork library (start (level_at library now d).below (t ∷ ts)) reads before after (followed (placing (t ∷ ts)) (group_answer g))
faithful_start now d t ts {library} {reads} {before} {after} {g} low at p =
    let f = below_some library now d low in
    let first = filter (λ (u : Task). is_immediate u.place) (t ∷ ts) in
    subst (λ b. FaithfulWork library (start b (t ∷ ts)) reads before after (followed (placing (t ∷ ts)) (group_answer g))) (sym f.1)
    (faithful_then (placed (t ∷ ts)) (λ S. course_of (siblings f.0 true first S)) refl (Grows-same reads) (faithful_placed (t ∷ ts))
    (faithful_group (siblings f.0 true first)
    (subst (λ s. FaithfulSiblings library s reads before after g) (λ i S. sym (siblings_same library now d f.0 true first S f.1 at) i) p)))

-- a signal: the pasts are extended, and what is triggered starts
pub faithful_signal : (level : Level) (p : Primitive) {library : Library} {reads more : List Read} {w0 w1 w2 : Changes} {ts : List Task} {a : Answer} → Grows reads more
    → Faithful library (λ S. triggered level (extended p S)) (extended p) reads w0 w1 ts → FaithfulWork library (start level.below ts) more w1 w2 a
    → FaithfulWork library (signal_in level p) more w0 w2 a
faithful_signal level p {library} {reads} {more} {w0} {w1} {w2} {ts} {a} grows heard begins = record {
  from = λ base held S ordered is.
      let first = heard.from base (held_before grows base held) S ordered is in
      subst (λ us. LeadsTo library (answer_of (start level.below us (extended p S))) (start level.below us (extended p S)).state a (over base w2)) (sym first.answers)
      (begins.from base held (extended p S) first.ordered first.reaches);
}
