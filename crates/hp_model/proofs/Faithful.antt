-- How faithful calls compose.
use Rattle.std.proofs.Common.{◌≡◌, refl, ap, ap₂, sym, ◌∙◌, subst, false, List, [], ◌∷◌, ◌++◌, Option, append-nil, append_assoc}
use Rattle.std.specs.Prelude.{Ok, Err}
use Rattle.hp_model.specs.Values.{Veto, Cause, Outcome}
use Rattle.hp_model.specs.Rules.{Library}
use Rattle.hp_model.specs.State.{State, IsOrdered}
use Rattle.hp_model.specs.Tree.{Task, Items, no_items, operation, emission, detachment, node, append, Node, sub_node, without_detachments}
use Rattle.hp_model.specs.Transactions.{End, done, abort_by, veto_by, Course, Work, ends, for_each, joined, after_end, then_do, with_value, with_items, closed_by, closed}
use Rattle.hp_model.specs.Transactions.{detachments, placed, detached_of}
use Rattle.hp_model.specs.Firing.{Firing, nested, sub_by, sub_in}
use Rattle.hp_model.specs.Cells.{Cell, CellValue, Cells, cells, Changes, over, Read, Holds}
use Rattle.hp_model.specs.Soundness.{Answer, answer_of, FiringAnswer, firing_answer, LeadsTo, Faithful}
use Rattle.hp_model.specs.Answers.{FaithfulWork, FaithfulFiring, Finds, ended, tells, placing, followed, is_done, kept, closing}
use Rattle.hp_model.proofs.BridgesCells.{Holds-front}

-- ---- reads that grow

-- some reads, and more after them
pub record Grows (reads more : List Read) : Type 0 where
  pub others : List Read
  pub are : more ≡ reads ++ others

pub Grows-same : (reads : List Read) → Grows reads reads
Grows-same reads = record { others = []; are = sym (append-nil reads) }

pub Grows-then : {a b c : List Read} → Grows a b → Grows b c → Grows a c
Grows-then {a} {b} {c} p q = record { others = p.others ++ q.others; are = q.are ∙ ap (λ rs. rs ++ q.others) p.are ∙ append_assoc a p.others q.others }

-- reads that hold later held before
pub held_before : {reads more : List Read} → Grows reads more → (base : Cells) → Holds base more → Holds base reads
held_before {reads} {more} grows base h = Holds-front base reads grows.others (subst (Holds base) grows.are h)

pub faithful_more : {A : Type 0} {library : Library} {given : State → A} {next : State → State} {reads more : List Read} {before after : Changes} {answer : A}
    → Grows reads more → Faithful library given next reads before after answer → Faithful library given next more before after answer
faithful_more grows p = record { from = λ base held S ordered is. p.from base (held_before grows base held) S ordered is }

pub finds_more : {A : Type 0} {library : Library} {of : State → A} {reads more : List Read} {writes : Changes} {found : A}
    → Grows reads more → Finds library of reads writes found → Finds library of more writes found
finds_more grows p = record { from = λ base held S ordered is. p.from base (held_before grows base held) S ordered is }

-- ---- trees without detached tasks

pub without-append : (a b : Items) → without_detachments (append a b) ≡ append (without_detachments a) (without_detachments b)
without-append no_items b = refl
without-append (operation op rest) b = ap (operation op) (without-append rest b)
without-append (emission v rest) b = ap (emission v) (without-append rest b)
without-append (detachment t rest) b = without-append rest b
without-append (node what end inside rest) b = ap (node what end (without_detachments inside)) (without-append rest b)

pub without-detachments : (ts : List Task) → without_detachments (detachments ts) ≡ no_items
without-detachments [] = refl
without-detachments (t ∷ ts) = without-detachments ts

pub joined_answer : (c d : Course) → answer_of (joined c d) ≡ followed (answer_of c) (answer_of d)
joined_answer c d i = record { end = d.end; queued = c.queued ++ d.queued; detached = c.detached ++ d.detached; items = without-append c.items d.items i }

-- ---- steps that read nothing and write nothing

pub faithful_ends : (e : End) {library : Library} {reads : List Read} {writes : Changes} → FaithfulWork library (ends e) reads writes writes (ended e)
faithful_ends e = record { from = λ base held S ordered is. record { answers = refl; reaches = is; ordered = ordered } }

pub faithful_items : (items : Items) {library : Library} {reads : List Read} {writes : Changes} → FaithfulWork library (with_items items) reads writes writes (tells (without_detachments items))
faithful_items items = record { from = λ base held S ordered is. record { answers = refl; reaches = is; ordered = ordered } }

pub faithful_placed : (ts : List Task) {library : Library} {reads : List Read} {writes : Changes} → FaithfulWork library (placed ts) reads writes writes (placing ts)
faithful_placed ts = record {
  from = λ base held S ordered is. record {
    answers = λ i. record { end = done; queued = (placing ts).queued; detached = (placing ts).detached; items = without-detachments (detached_of ts) i };
    reaches = is;
    ordered = ordered;
  };
}

-- ---- what a step finds

-- the same for a part of what is found
pub finds_part : {A B : Type 0} (f : A → B) {library : Library} {of : State → A} {reads : List Read} {writes : Changes} {found : A}
    → Finds library of reads writes found → Finds library (λ S. f (of S)) reads writes (f found)
finds_part f p = record { from = λ base held S ordered is. ap f (p.from base held S ordered is) }

pub finds_as : {A : Type 0} {library : Library} (of other : State → A) {reads : List Read} {writes : Changes} {found : A}
    → ((S : State) → IsOrdered library S → other S ≡ of S) → Finds library of reads writes found → Finds library other reads writes found
finds_as of other same p = record { from = λ base held S ordered is. same S ordered ∙ p.from base held S ordered is }

-- a cell
pub finds_cell : (library : Library) (cell : Cell) {reads : List Read} {writes : Changes} {found : Option CellValue}
    → ((base : Cells) → Holds base reads → over base writes cell ≡ found) → Finds library (λ S. cells library S cell) reads writes found
finds_cell library cell shows = record { from = λ base held S ordered is. ap (λ c. c cell) is ∙ shows base held }

-- a step that depends on what it finds
pub faithful_found : {A X : Type 0} (given : A → State → X) (next : A → State → State) {library : Library} {of : State → A} {reads : List Read} {before after : Changes} {found : A} {answer : X}
    → Finds library of reads before found → Faithful library (given found) (next found) reads before after answer
    → Faithful library (λ S. given (of S) S) (λ S. next (of S) S) reads before after answer
faithful_found given next {library} {of} {reads} {before} {after} {found} {answer} finds p = record {
  from = λ base held S ordered is.
      subst (λ o. LeadsTo library (given o S) (next o S) answer (over base after)) (sym (finds.from base held S ordered is)) (p.from base held S ordered is);
}

pub work_found : {A : Type 0} (f : A → Work) {library : Library} {of : State → A} {reads : List Read} {before after : Changes} {found : A} {answer : Answer}
    → Finds library of reads before found → FaithfulWork library (f found) reads before after answer → FaithfulWork library (λ S. f (of S) S) reads before after answer
work_found f finds p = faithful_found (λ o S. answer_of (f o S)) (λ o S. (f o S).state) finds p

pub firing_found : {A : Type 0} (f : A → State → Firing) {library : Library} {of : State → A} {reads : List Read} {before after : Changes} {found : A} {answer : FiringAnswer}
    → Finds library of reads before found → FaithfulFiring library (f found) reads before after answer → FaithfulFiring library (λ S. f (of S) S) reads before after answer
firing_found f finds p = faithful_found (λ o S. firing_answer (f o S)) (λ o S. (f o S).state) finds p

-- a step finds what a faithful call gives
pub finds_answer : {A : Type 0} {library : Library} {given : State → A} {next : State → State} {reads : List Read} {before after : Changes} {answer : A}
    → Faithful library given next reads before after answer → Finds library given reads before answer
finds_answer p = record { from = λ base held S ordered is. (p.from base held S ordered is).answers }

-- a value, or a cause that aborts
pub faithful_value : {A : Type 0} (f : A → Work) {library : Library} {of : State → Outcome A} {reads : List Read} {before after : Changes} {v : A} {answer : Answer}
    → Finds library of reads before (Ok v) → FaithfulWork library (f v) reads before after answer → FaithfulWork library (λ S. with_value (of S) f S) reads before after answer
faithful_value f finds p = work_found (λ o. with_value o f) finds p

pub faithful_cause : {A : Type 0} (f : A → Work) {library : Library} {of : State → Outcome A} {reads : List Read} {writes : Changes} {c : Cause}
    → Finds library of reads writes (Err c) → FaithfulWork library (λ S. with_value (of S) f S) reads writes writes (ended (abort_by c))
faithful_cause f {c = c} finds = work_found (λ o. with_value o f) finds (faithful_ends (abort_by c))

-- ---- one step after another

pub faithful_then : (f g : Work) {library : Library} {reads more : List Read} {w0 w1 w2 : Changes} {a b : Answer} → a.end ≡ done → Grows reads more
    → FaithfulWork library f reads w0 w1 a → FaithfulWork library g more w1 w2 b → FaithfulWork library (λ S. then_do (f S) g) more w0 w2 (followed a b)
faithful_then f g {library} {reads} {more} {w0} {w1} {w2} {a} {b} is_end grows p q = record {
  from = λ base held S ordered is.
      let first = p.from base (held_before grows base held) S ordered is in
      let second = q.from base held (f S).state first.ordered first.reaches in
      let ends_done : (f S).end ≡ done = ap (λ (x : Answer). x.end) first.answers ∙ is_end in
      subst (λ e. LeadsTo library (answer_of (after_end e (f S) g)) (after_end e (f S) g).state (followed a b) (over base w2)) (sym ends_done)
      (record { answers = joined_answer (f S) (g (f S).state) ∙ ap₂ followed first.answers second.answers; reaches = second.reaches; ordered = second.ordered });
}

-- if the first isn't done, the second doesn't follow
pub halted : (e : End) (c : Course) (g : Work) → is_done e ≡ false → after_end e c g ≡ c
halted done c g h = cc
halted (abort_by x) c g h = refl
halted (veto_by r) c g h = refl

pub faithful_halt : (f g : Work) {library : Library} {reads : List Read} {before after : Changes} {a : Answer} → is_done a.end ≡ false
    → FaithfulWork library f reads before after a → FaithfulWork library (λ S. then_do (f S) g) reads before after a
faithful_halt f g {library} {reads} {before} {after} {a} halts p = record {
  from = λ base held S ordered is.
      let first = p.from base held S ordered is in
      let not_done : is_done (f S).end ≡ false = ap (λ (x : Answer). is_done x.end) first.answers ∙ halts in
      subst (λ (c : Course). LeadsTo library (answer_of c) c.state a (over base after)) (sym (halted (f S).end (f S) g not_done)) first;
}

-- the same step, or the same answer, in another form
pub faithful_as : (f g : Work) {library : Library} {reads : List Read} {before after : Changes} {a : Answer}
    → ((S : State) → g S ≡ f S) → FaithfulWork library f reads before after a → FaithfulWork library g reads before after a
faithful_as f g {library} {reads} {before} {after} {a} same p = subst (λ h. FaithfulWork library h reads before after a) (λ i S. sym (same S) i) p

-- ---- work that ends as a nested transaction

closed_answer : (what : Node) (e out : End) (S : State) (c : Course)
    → answer_of (nested what (closed_by e S c) out) ≡ closing what (record { end = e; queued = c.queued; detached = c.detached; items = without_detachments c.items }) out
closed_answer what done out S c = refl
closed_answer what (abort_by x) out S c = refl
closed_answer what (veto_by r) out S c = refl

pub closed_cells : (library : Library) (e : End) (S : State) (c : Course) (base : Cells) (before after : Changes) → cells library S ≡ over base before → cells library c.state ≡ over base after
    → cells library (closed_by e S c).state ≡ over base (kept e before after)
closed_cells library done S c base before after was is = is
closed_cells library (abort_by x) S c base before after was is = was
closed_cells library (veto_by r) S c base before after was is = was

pub closed_ordered : (library : Library) (e : End) (S : State) (c : Course) → IsOrdered library S → IsOrdered library c.state → IsOrdered library (closed_by e S c).state
closed_ordered library done S c was is = is
closed_ordered library (abort_by x) S c was is = was
closed_ordered library (veto_by r) S c was is = was

pub faithful_nested : (what : Node) (out : End) (f : Work) {library : Library} {reads : List Read} {before after : Changes} {a : Answer}
    → FaithfulWork library f reads before after a → FaithfulWork library (λ S. nested what (closed S (f S)) out) reads before (kept a.end before after) (closing what a out)
faithful_nested what out f {library} {reads} {before} {after} {a} p = record {
  from = λ base held S ordered is.
      let first = p.from base held S ordered is in
      let same_end : (f S).end ≡ a.end = ap (λ (x : Answer). x.end) first.answers in
      record {
        answers = closed_answer what (f S).end out S (f S) ∙ ap (λ x. closing what x out) first.answers;
        reaches = closed_cells library (f S).end S (f S) base before after is first.reaches ∙ ap (λ e. over base (kept e before after)) same_end;
        ordered = closed_ordered library (f S).end S (f S) ordered first.ordered;
      };
}

-- ---- the statement `sub`

module _ {library : Library} (f g : Work) where
  -- what it does, depending on the end of its body
  sub_found : {reads more : List Read} {w0 w1 after : Changes} {a b : Answer} (e : End) → a.end ≡ e → Grows reads more → FaithfulWork library f reads w0 w1 a
      → FaithfulWork library (λ S. sub_by e (closed S (f S)) g) more w0 after b → FaithfulWork library (λ S. sub_in f g S) more w0 after b
  sub_found {more = more} {w0 = w0} {after = after} {b = b} e is grows p q =
      work_found (λ e S. sub_by e (closed S (f S)) g) (finds_part (λ (x : Answer). x.end) (finds_answer (faithful_more grows p)))
      (subst (λ e. FaithfulWork library (λ S. sub_by e (closed S (f S)) g) more w0 after b) (sym is) q)

  -- its body is done
  pub faithful_sub_done : {reads : List Read} {w0 w1 : Changes} {a : Answer} → a.end ≡ done → FaithfulWork library f reads w0 w1 a
      → FaithfulWork library (λ S. sub_in f g S) reads w0 w1 (closing sub_node a done)
  faithful_sub_done {reads} {w0} {w1} {a} is p =
      sub_found done is (Grows-same reads) p
      (subst (λ e. FaithfulWork library (λ S. nested sub_node (closed S (f S)) done) reads w0 (kept e w0 w1) (closing sub_node a done)) is (faithful_nested sub_node done f p))

  -- a veto passes outward
  pub faithful_sub_veto : {reads : List Read} {w0 w1 : Changes} {a : Answer} (r : Veto) → a.end ≡ veto_by r → FaithfulWork library f reads w0 w1 a
      → FaithfulWork library (λ S. sub_in f g S) reads w0 w0 (closing sub_node a (veto_by r))
  faithful_sub_veto {reads} {w0} {w1} {a} r is p =
      sub_found (veto_by r) is (Grows-same reads) p
      (subst (λ e. FaithfulWork library (λ S. nested sub_node (closed S (f S)) (veto_by r)) reads w0 (kept e w0 w1) (closing sub_node a (veto_by r))) is (faithful_nested sub_node (veto_by r) f p))

  -- its body aborts, and the other one follows
  pub faithful_sub_abort : {reads more : List Read} {w0 w1 w2 : Changes} {a b : Answer} (x : Cause) → a.end ≡ abort_by x → Grows reads more → FaithfulWork library f reads w0 w1 a
      → FaithfulWork library g more w0 w2 b → FaithfulWork library (λ S. sub_in f g S) more w0 w2 (followed (closing sub_node a done) b)
  faithful_sub_abort {reads} {more} {w0} {w1} {w2} {a} {b} x is grows p q =
      sub_found (abort_by x) is grows p
      (faithful_then (λ S. nested sub_node (closed S (f S)) done) g refl grows
      (subst (λ e. FaithfulWork library (λ S. nested sub_node (closed S (f S)) done) reads w0 (kept e w0 w1) (closing sub_node a done)) is (faithful_nested sub_node done f p)) q)

-- ---- the same work for each element

pub append-assoc : (a b c : Items) → append (append a b) c ≡ append a (append b c)
append-assoc no_items b c = refl
append-assoc (operation op rest) b c = ap (operation op) (append-assoc rest b c)
append-assoc (emission v rest) b c = ap (emission v) (append-assoc rest b c)
append-assoc (detachment t rest) b c = ap (detachment t) (append-assoc rest b c)
append-assoc (node what end inside rest) b c = ap (node what end inside) (append-assoc rest b c)

pub append-none : (a : Items) → append a no_items ≡ a
append-none no_items = refl
append-none (operation op rest) = ap (operation op) (append-none rest)
append-none (emission v rest) = ap (emission v) (append-none rest)
append-none (detachment t rest) = ap (detachment t) (append-none rest)
append-none (node what end inside rest) = ap (node what end inside) (append-none rest)

pub followed-assoc : (a b c : Answer) → followed (followed a b) c ≡ followed a (followed b c)
followed-assoc a b c i = record {
  end = c.end;
  queued = append_assoc a.queued b.queued c.queued i;
  detached = append_assoc a.detached b.detached c.detached i;
  items = append-assoc a.items b.items c.items i;
}

pub followed-none : (a : Answer) → a.end ≡ done → followed a (ended done) ≡ a
followed-none a is i = record { end = sym is i; queued = append-nil a.queued i; detached = append-nil a.detached i; items = append-none a.items i }

-- a loop over a list: whatever the rest does, with what was done so far it makes the whole
module _ {A : Type 0} (library : Library) (work : A → Work) (whole : Work) (w0 : Changes) where
  pub record Completes (left : List A) (reads : List Read) (now : Changes) (so_far : Answer) : Type 0 where
    pub by : (more : List Read) (after : Changes) (b : Answer) → Grows reads more → FaithfulWork library (for_each left work) more now after b
        → FaithfulWork library whole more w0 after (followed so_far b)

  -- one more element is done
  pub each_more : {x : A} {xs : List A} {reads more : List Read} {w1 w2 : Changes} {so_far got : Answer} → got.end ≡ done → Grows reads more
      → Completes (x ∷ xs) reads w1 so_far → FaithfulWork library (work x) more w1 w2 got → Completes xs more w2 (followed so_far got)
  each_more {x} {xs} {reads} {more} {w1} {w2} {so_far} {got} is grows c p = record {
    by = λ most after b grows' q.
        subst (λ y. FaithfulWork library whole most w0 after y) (sym (followed-assoc so_far got b))
        (c.by most after (followed got b) (Grows-then grows grows') (faithful_then (work x) (for_each xs work) is grows' p q));
  }

  -- one isn't done, and nothing follows it
  pub each_halt : {x : A} {xs : List A} {reads more : List Read} {w1 w2 : Changes} {so_far got : Answer} → is_done got.end ≡ false → Grows reads more
      → Completes (x ∷ xs) reads w1 so_far → FaithfulWork library (work x) more w1 w2 got → FaithfulWork library whole more w0 w2 (followed so_far got)
  each_halt {x} {xs} {reads} {more} {w1} {w2} {so_far} {got} halts grows c p = c.by more w2 got grows (faithful_halt (work x) (for_each xs work) halts p)

  -- all are done
  pub each_end : {reads : List Read} {w1 : Changes} {so_far : Answer} → so_far.end ≡ done → Completes [] reads w1 so_far → FaithfulWork library whole reads w0 w1 so_far
  each_end {reads} {w1} {so_far} is c = subst (λ y. FaithfulWork library whole reads w0 w1 y) (followed-none so_far is) (c.by reads w1 (ended done) (Grows-same reads) (faithful_ends done))
