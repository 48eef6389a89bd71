-- How faithful calls compose to top-level transactions, generations, cascades and units.
use Rattle.std.proofs.Common.{◌≡◌, refl, ap, ap₂, sym, ◌∙◌, subst, ℕ, zero, suc, true, List, [], ◌∷◌, ◌++◌, Some, None, append-nil, append_assoc}
use Rattle.std.proofs.lemmas.List.{map-append}
use Rattle.hp_model.specs.Rules.{Library}
use Rattle.hp_model.specs.State.{State}
use Rattle.hp_model.specs.Tree.{Task, without_detachments}
use Rattle.hp_model.specs.Transactions.{Detached, End, done, abort_by, veto_by, Course, Work, drained, closed_by}
use Rattle.hp_model.specs.Firing.{Fire, siblings, course_of, fire_task}
use Rattle.hp_model.specs.Cascade.{Unit, now_in, unit_work, task_work, most_rounds, next_round, rounds, top_course, top, Generation, alone, generation, due, Cascade}
use Rattle.hp_model.specs.Cascade.{before_cascade, cascade, transactions_of, TransactionReport, transaction_report, time_of, veto_end}
use Rattle.hp_model.specs.Cells.{Changes, over, Read}
use Rattle.hp_model.specs.Soundness.{Answer, answer_of, FiringAnswer, LeadsTo}
use Rattle.hp_model.specs.Answers.{FaithfulWork, FaithfulFiring, SiblingsAnswer, FaithfulSiblings, followed, kept, group_answer, drained_answer, is_settled, TopAnswer, top_answer}
use Rattle.hp_model.specs.Answers.{closing_top, FaithfulTop, GenerationAnswer, generation_answer, FaithfulGeneration, reported, cascade_answer, FaithfulCascade, FaithfulUnit}
use Rattle.hp_model.proofs.Faithful.{Grows, Grows-same, Grows-then, held_before, joined_answer, closed_cells, closed_ordered}
use Rattle.hp_model.proofs.FaithfulFirings.{course_answer}

-- ---- rounds

rounds_rest : (n : ℕ) (fire : Fire) (c : Course) → is_settled c.end c.queued ≡ true → rounds n fire c ≡ c
rounds_rest zero fire c h = refl
rounds_rest (suc n) fire c h = ap (rounds n fire) (stays c.end c.queued h) ∙ rounds_rest n fire c h
  where
    stays : (e : End) (ts : List Task) → is_settled e ts ≡ true → next_round fire e ts c ≡ c
    stays done [] h = refl
    stays done (t ∷ ts) h = cc
    stays (abort_by x) ts h = refl
    stays (veto_by r) ts h = refl

-- a round: the queued tasks fire as siblings
abbrev round_answer : Answer → SiblingsAnswer → Answer
round_answer a g = followed (drained_answer a) (group_answer g)

module _ (library : Library) (fire : Fire) (whole : Work) (w0 : Changes) where
  -- rounds are left after which the whole is done
  pub record Rounds (left : ℕ) (reads : List Read) (now : Changes) (so_far : Answer) : Type 0 where
    pub work : Work
    pub same : (S : State) → rounds left fire (work S) ≡ whole S
    pub is : FaithfulWork library work reads w0 now so_far

  pub rounds_more : {left : ℕ} {reads more : List Read} {now after : Changes} {a : Answer} {g : SiblingsAnswer} (t : Task) (ts : List Task) → a.end ≡ done → a.queued ≡ t ∷ ts
      → Grows reads more → Rounds (suc left) reads now a → FaithfulSiblings library (siblings fire true (t ∷ ts)) more now after g
      → Rounds left more after (followed (drained_answer a) (group_answer g))
  rounds_more {left} {reads} {more} {now} {after} {a} {g} t ts is_end are grows so_far p = record {
    work = λ S. next_round fire (so_far.work S).end (so_far.work S).queued (so_far.work S);
    same = so_far.same;
    is = record {
      from = λ base held S ordered is.
          let first = so_far.is.from base (held_before grows base held) S ordered is in
          let c = so_far.work S in
          let rest = p.from base held c.state first.ordered first.reaches in
          let is_done : c.end ≡ done = ap (λ (x : Answer). x.end) first.answers ∙ is_end in
          let queue : c.queued ≡ t ∷ ts = ap (λ (x : Answer). x.queued) first.answers ∙ are in
          subst (λ (x : End × List Task). LeadsTo library (answer_of (next_round fire x.0 x.1 c)) (next_round fire x.0 x.1 c).state (round_answer a g) (over base after))
          (λ i. (sym is_done i, sym queue i))
          (record {
            answers =
                joined_answer (drained c) (course_of (siblings fire true (t ∷ ts) c.state))
                ∙ ap₂ followed (ap drained_answer first.answers) (course_answer (siblings fire true (t ∷ ts) c.state) ∙ ap group_answer rest.answers);
            reaches = rest.reaches;
            ordered = rest.ordered;
          });
    };
  }

  pub rounds_end : {left : ℕ} {reads : List Read} {now : Changes} {a : Answer} → is_settled a.end a.queued ≡ true → Rounds left reads now a → FaithfulWork library whole reads w0 now a
  rounds_end {left} {reads} {now} {a} settled so_far = record {
    from = λ base held S ordered is.
        let first = so_far.is.from base held S ordered is in
        let rests : is_settled (so_far.work S).end (so_far.work S).queued ≡ true = ap (λ (x : Answer). is_settled x.end x.queued) first.answers ∙ settled in
        subst (λ (c : Course). LeadsTo library (answer_of c) c.state a (over base now)) (sym (rounds_rest left fire (so_far.work S) rests) ∙ so_far.same S) first;
  }

  pub rounds_over : {reads : List Read} {now : Changes} {a : Answer} → Rounds 0 reads now a → FaithfulWork library whole reads w0 now a
  rounds_over {reads} {now} {a} so_far = record {
    from = λ base held S ordered is.
        subst (λ (c : Course). LeadsTo library (answer_of c) c.state a (over base now)) (so_far.same S) (so_far.is.from base held S ordered is);
  }

pub rounds_begin : (library : Library) (fire : Fire) (n : ℕ) (work : Work) {reads : List Read} {before after : Changes} {a : Answer} → FaithfulWork library work reads before after a
    → Rounds library fire (λ S. rounds n fire (work S)) before n reads after a
rounds_begin library fire n work p = record { work = work; same = λ S. refl; is = p }

-- ---- top-level transactions

top_closed : (e : End) (S : State) (c : Course) → top_answer (closed_by e S c) ≡ closing_top (record { end = e; queued = c.queued; detached = c.detached; items = without_detachments c.items })
top_closed done S c = refl
top_closed (abort_by x) S c = refl
top_closed (veto_by r) S c = refl

pub faithful_top : (now depth : ℕ) (work : Work) {library : Library} {reads : List Read} {before after : Changes} {a : Answer}
    → FaithfulWork library (top_course library now depth work) reads before after a
    → FaithfulTop library (top library now depth work) reads before (kept a.end before after) (closing_top a)
faithful_top now depth work {library} {reads} {before} {after} {a} p = record {
  from = λ base held S ordered is.
      let c = top_course library now depth work S in
      let all = p.from base held S ordered is in
      let same_end : c.end ≡ a.end = ap (λ (x : Answer). x.end) all.answers in
      record {
        answers = top_closed c.end S c ∙ ap closing_top all.answers;
        reaches = closed_cells library c.end S c base before after is all.reaches ∙ ap (λ e. over base (kept e before after)) same_end;
        ordered = closed_ordered library c.end S c ordered all.ordered;
      };
}

-- one task as a transaction's whole body
abbrev pub task_answer : FiringAnswer → Answer
task_answer f = record { end = veto_end f.vetoed_by; queued = f.queued; detached = f.detached; items = f.items }

pub faithful_task_work : (t : Task) {library : Library} {reads : List Read} {before after : Changes} {f : FiringAnswer}
    → FaithfulFiring library (λ S. fire_task library S t) reads before after f → FaithfulWork library (task_work library t) reads before after (task_answer f)
faithful_task_work t p = record {
  from = λ base held S ordered is.
      let fired = p.from base held S ordered is in
      record { answers = ap task_answer fired.answers; reaches = fired.reaches; ordered = fired.ordered };
}

-- ---- generations

pub faithful_no_generation : {library : Library} {reads : List Read} {writes : Changes}
    → FaithfulGeneration library (generation library []) reads writes writes (record { transactions = []; detached = [] })
faithful_no_generation = record { from = λ base held S ordered is. record { answers = refl; reaches = is; ordered = ordered } }

abbrev generation_with : Task → TopAnswer → GenerationAnswer → GenerationAnswer
generation_with t a g = record { transactions = reported (Some t) a ∷ g.transactions; detached = a.detached ++ g.detached }

pub faithful_generation : (t : Task) (ts : List Task) {library : Library} {reads more : List Read} {w0 w1 w2 : Changes} {a : TopAnswer} {g : GenerationAnswer} → Grows reads more
    → FaithfulTop library (top library t.now t.depth (task_work library t)) reads w0 w1 a → FaithfulGeneration library (generation library ts) more w1 w2 g
    → FaithfulGeneration library (generation library (t ∷ ts)) more w0 w2 (record { transactions = reported (Some t) a ∷ g.transactions; detached = a.detached ++ g.detached })
faithful_generation t ts {library} {reads} {more} {w0} {w1} {w2} {a} {g} grows p q = record {
  from = λ base held S ordered is.
      let first = p.from base (held_before grows base held) S ordered is in
      let rest = q.from base held (top library t.now t.depth (task_work library t) S).state first.ordered first.reaches in
      record { answers = ap₂ (generation_with t) first.answers rest.answers; reaches = rest.reaches; ordered = rest.ordered };
}

-- the loop over a generation's tasks
module _ (library : Library) (whole : List Task) (w0 : Changes) where
  pub record GenerationCompletes (left : List Task) (reads : List Read) (now : Changes) (so_far : GenerationAnswer) : Type 0 where
    pub by : (more : List Read) (after : Changes) (g : GenerationAnswer) → Grows reads more → FaithfulGeneration library (generation library left) more now after g
        → FaithfulGeneration library (generation library whole) more w0 after (record { transactions = so_far.transactions ++ g.transactions; detached = so_far.detached ++ g.detached })

  pub generation_more : {t : Task} {ts : List Task} {reads more : List Read} {w1 w2 : Changes} {so_far : GenerationAnswer} {a : TopAnswer} → Grows reads more
      → GenerationCompletes (t ∷ ts) reads w1 so_far → FaithfulTop library (top library t.now t.depth (task_work library t)) more w1 w2 a
      → GenerationCompletes ts more w2 (record { transactions = so_far.transactions ++ reported (Some t) a ∷ []; detached = so_far.detached ++ a.detached })
  generation_more {t} {ts} {reads} {more} {w1} {w2} {so_far} {a} grows c p = record {
    by = λ most after g grows' q.
        subst (λ x. FaithfulGeneration library (generation library whole) most w0 after x)
        (λ i. record { transactions = sym (append_assoc so_far.transactions (reported (Some t) a ∷ []) g.transactions) i; detached = sym (append_assoc so_far.detached a.detached g.detached) i })
        (c.by most after (record { transactions = reported (Some t) a ∷ g.transactions; detached = a.detached ++ g.detached }) (Grows-then grows grows') (faithful_generation t ts grows' p q));
  }

  pub generation_end : {reads : List Read} {w1 : Changes} {so_far : GenerationAnswer} → GenerationCompletes [] reads w1 so_far
      → FaithfulGeneration library (generation library whole) reads w0 w1 so_far
  generation_end {reads} {w1} {so_far} c =
      subst (λ x. FaithfulGeneration library (generation library whole) reads w0 w1 x)
      (λ i. record { transactions = append-nil so_far.transactions i; detached = append-nil so_far.detached i })
      (c.by reads w1 (record { transactions = []; detached = [] }) (Grows-same reads) faithful_no_generation)

-- ---- cascades

before_reports : (g : Generation) (c : Cascade) → cascade_answer (before_cascade g c) ≡ (generation_answer g).transactions ++ cascade_answer c
before_reports g c = map-append transaction_report g.transactions (transactions_of c)

pub faithful_no_cascade : (n : ℕ) {library : Library} {reads : List Read} {writes : Changes} → FaithfulCascade library (cascade n library []) reads writes writes []
faithful_no_cascade zero = record { from = λ base held S ordered is. record { answers = refl; reaches = is; ordered = ordered } }
faithful_no_cascade (suc n) = record { from = λ base held S ordered is. record { answers = refl; reaches = is; ordered = ordered } }

pub faithful_cascade_over : (ts : List Task) {library : Library} {reads : List Read} {writes : Changes} → FaithfulCascade library (cascade 0 library ts) reads writes writes []
faithful_cascade_over ts = record { from = λ base held S ordered is. record { answers = refl; reaches = is; ordered = ordered } }

-- a generation, and those that follow it
follows : (library : Library) (n : ℕ) (run : State → Generation) {reads more : List Read} {w0 w1 w2 : Changes} {g : GenerationAnswer} {rest : List TransactionReport} → Grows reads more
    → FaithfulGeneration library run reads w0 w1 g → FaithfulCascade library (cascade n library (due g.detached)) more w1 w2 rest
    → FaithfulCascade library (λ S. before_cascade (run S) (cascade n library (due (run S).detached) (run S).state)) more w0 w2 (g.transactions ++ rest)
follows library n run {reads} {more} {w0} {w1} {w2} {g} {rest} grows p q = record {
  from = λ base held S ordered is.
      let first = p.from base (held_before grows base held) S ordered is in
      let after = q.from base held (run S).state first.ordered first.reaches in
      subst (λ (ds : List Detached). LeadsTo library (cascade_answer (before_cascade (run S) (cascade n library (due ds) (run S).state)))
      (cascade n library (due ds) (run S).state).state (g.transactions ++ rest) (over base w2))
      (sym (ap (λ (x : GenerationAnswer). x.detached) first.answers))
      (record {
        answers =
            before_reports (run S) (cascade n library (due g.detached) (run S).state)
            ∙ ap₂ (λ (x : List TransactionReport) (y : List TransactionReport). x ++ y) (ap (λ (x : GenerationAnswer). x.transactions) first.answers) after.answers;
        reaches = after.reaches;
        ordered = after.ordered;
      });
}

pub faithful_cascade : (n : ℕ) (t : Task) (ts : List Task) {library : Library} {reads more : List Read} {w0 w1 w2 : Changes} {g : GenerationAnswer} {rest : List TransactionReport} → Grows reads more
    → FaithfulGeneration library (generation library (t ∷ ts)) reads w0 w1 g → FaithfulCascade library (cascade n library (due g.detached)) more w1 w2 rest
    → FaithfulCascade library (cascade (suc n) library (t ∷ ts)) more w0 w2 (g.transactions ++ rest)
faithful_cascade n t ts {library} grows p q = follows library n (generation library (t ∷ ts)) grows p q

-- the loop over generations
module _ (library : Library) (whole : State → Cascade) (w0 : Changes) where
  pub record CascadeCompletes (left : ℕ) (tasks : List Task) (reads : List Read) (now : Changes) (so_far : List TransactionReport) : Type 0 where
    pub by : (more : List Read) (after : Changes) (rest : List TransactionReport) → Grows reads more → FaithfulCascade library (cascade left library tasks) more now after rest
        → FaithfulCascade library whole more w0 after (so_far ++ rest)

  pub cascade_more : {left : ℕ} {t : Task} {ts : List Task} {reads more : List Read} {w1 w2 : Changes} {so_far : List TransactionReport} {g : GenerationAnswer} → Grows reads more
      → CascadeCompletes (suc left) (t ∷ ts) reads w1 so_far → FaithfulGeneration library (generation library (t ∷ ts)) more w1 w2 g
      → CascadeCompletes left (due g.detached) more w2 (so_far ++ g.transactions)
  cascade_more {left} {t} {ts} {reads} {more} {w1} {w2} {so_far} {g} grows c p = record {
    by = λ most after rest grows' q.
        subst (λ x. FaithfulCascade library whole most w0 after x) (sym (append_assoc so_far g.transactions rest))
        (c.by most after (g.transactions ++ rest) (Grows-then grows grows') (faithful_cascade left t ts grows' p q));
  }

  pub cascade_end : {left : ℕ} {reads : List Read} {w1 : Changes} {so_far : List TransactionReport} → CascadeCompletes left [] reads w1 so_far → FaithfulCascade library whole reads w0 w1 so_far
  cascade_end {left} {reads} {w1} {so_far} c =
      subst (λ x. FaithfulCascade library whole reads w0 w1 x) (append-nil so_far) (c.by reads w1 [] (Grows-same reads) (faithful_no_cascade left))

  pub cascade_over : {tasks : List Task} {reads : List Read} {w1 : Changes} {so_far : List TransactionReport} → CascadeCompletes 0 tasks reads w1 so_far
      → FaithfulCascade library whole reads w0 w1 so_far
  cascade_over {tasks} {reads} {w1} {so_far} c =
      subst (λ x. FaithfulCascade library whole reads w0 w1 x) (append-nil so_far) (c.by reads w1 [] (Grows-same reads) (faithful_cascade_over tasks))

-- ---- units

pub faithful_unit : (unit : Unit) {library : Library} {reads more : List Read} {w0 w1 w2 : Changes} {a : TopAnswer} {rest : List TransactionReport} → Grows reads more
    → FaithfulTop library (top library (now_in unit) 0 (unit_work library unit)) reads w0 w1 a → FaithfulCascade library (cascade (most_rounds library) library (due a.detached)) more w1 w2 rest
    → FaithfulUnit library unit more w0 w2 (record { time = time_of unit; transactions = reported None a ∷ rest })
faithful_unit unit {library} {reads} {more} {w0} {w1} {w2} {a} {rest} grows p q =
    let run = λ (S : State). alone None (top library (now_in unit) 0 (unit_work library unit) S) in
    let first : FaithfulGeneration library run reads w0 w1 (record { transactions = reported None a ∷ []; detached = a.detached }) =
    record {
      from = λ base held S ordered is.
          let one = p.from base held S ordered is in
          record { answers = ap (λ (x : TopAnswer). record { transactions = reported None x ∷ []; detached = x.detached }) one.answers; reaches = one.reaches; ordered = one.ordered };
    } in
    let all = follows library (most_rounds library) run grows first q in
    record {
      from = λ base held S ordered is.
          let one = all.from base held S ordered is in
          record { answers = ap (λ ts. record { time = time_of unit; transactions = ts }) one.answers; reaches = one.reaches; ordered = one.ordered };
    }
