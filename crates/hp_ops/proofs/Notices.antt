-- What notifying rules of an occurrence gives, on a view.
use Rattle.std.proofs.Common.{arith, ◌≡◌, refl, ap, ap₂, sym, ◌∙◌, subst, ℕ, ℤ, suc, ◌+◌, ◌<◌, ◌≤◌, true, false, cond, List, [], ◌∷◌, ◌++◌, map, filter, length, length-append}
use Rattle.std.proofs.Common.{take, drop, get_or, append-nil, append_assoc, Option, Some, None}
use Rattle.std.specs.Prelude.{◌==◌, ◌||◌, option_map, option_to_list, slice_get}
use Rattle.std.specs.Option.{option_or}
use Rattle.std.proofs.Math.Bool.{or-false}
use Rattle.std.proofs.lemmas.Bool.{or_parts}
use Rattle.std.proofs.lemmas.List.Folds.{list_any-append}
use Rattle.std.proofs.lemmas.List.{map-append, take_all, take-append-drop}
use Rattle.std.proofs.lemmas.List.Elements.{filter-append, filter_more}
use Rattle.std.proofs.Math.Seq.{take-append_seam, get_or-append_seam}
use Rattle.hp_model.specs.Occurrences.{Primitive, History, Occurrence}
use Rattle.hp_model.specs.Events.{Event, is_pure, occurrence_of}
use Rattle.hp_model.specs.Knowledge.{Knowledge}
use Rattle.hp_model.specs.Rules.{Rule, Library, rule_at}
use Rattle.hp_model.specs.State.{Status, enabled, extended}
use Rattle.hp_model.specs.Tree.{Task}
use Rattle.hp_model.specs.Cells.{Cell, object_cell, rule_cell, detector_cell, CellValue, knowledge_value, Cells, Changes, no_changes, changed, over, with_change, Holds}
use Rattle.hp_model.specs.Firing.{level_at, triggered, triggered_by}
use Rattle.hp_model.specs.Soundness.{Faithful}
use Rattle.hp_model.specs.Mentions.{mentioning}
use Rattle.hp_model.proofs.BridgesCells.{stacked, stacked-with_change, with_change-apart}
use Rattle.hp_model.proofs.BridgesReads.{status_at, knowledge_at}
use Rattle.hp_model.proofs.Faithful.{Grows, Grows-then, held_before}
use Rattle.hp_model.proofs.FaithfulFirings.{AreAt}
use Rattle.hp_model.proofs.Hearing.{is_in, mentioned_once, Heard, heard_none, heard_idle, heard_nowhere, heard_pure, heard_stepped, faithful_heard}
use Rattle.hp_store.specs.Changes.{Entries, changes}
use Rattle.hp_rule.specs.declared.task.Task.{Task as RustTask}
use Rattle.hp_rule.specs.Mapped.{task as task_of}
use Rattle.hp_rule.specs.Mentions.{is_mentioned}
use Rattle.hp_view.specs.Seeing.{Seeing, written, now_in, OnlyReads, ReadsMore, IsSame, Shows, TakesIn}
use Rattle.hp_ops.specs.Notified.{GoesOnePlace, LeaveOut, OnlySteps, StepsOn, NotifiedEnabled, Notified, AllNotified, condition_task, at_depth, with_step}
use Rattle.hp_ops.proofs.Worlds.{shown_now}
use Rattle.hp_ops.proofs.Ruling.{past_end}

grows_only : {v w : Seeing} → OnlyReads v w → Grows v.reads w.reads
grows_only only = record { others = only.reads.0; are = only.reads.1 }

-- ---- what is written

-- where memory runs out: before the steps are written, or while they are
pub reads_alone : {v w : Seeing} → OnlyReads v w → ReadsMore v w
reads_alone only = record { base = only.base; reads = only.reads; changes = ap changes only.writes; undo = only.undo }

pub reads_then_same : {v w z : Seeing} → OnlyReads v w → IsSame w z → ReadsMore v z
reads_then_same only same = record {
  base = same.base ∙ only.base;
  reads = (only.reads.0, same.reads ∙ only.reads.1);
  changes = same.changes ∙ ap changes only.writes;
  undo = same.undo ∙ only.undo;
}

-- changes of detectors' cells alone
pub record AreSteps (steps : Changes) : Type 0 where
  pub objects : (class : ℕ) → (key : ℤ) → steps (object_cell class key) ≡ None
  pub rules : (n : ℕ) → steps (rule_cell n) ≡ None

step_more : {steps : Changes} (n : ℕ) (next : Option Knowledge) → AreSteps steps → AreSteps (with_step steps n next)
step_more n None are = are
step_more n (Some next) are = record { objects = are.objects; rules = are.rules }

pub steps_written : {v w z : Seeing} {steps : Entries} → OnlyReads v w → AreSteps (changes steps) → TakesIn w z steps → OnlySteps v z
steps_written {v} {w} {z} {steps} only are takes = record {
  objects = λ class key. at (object_cell class key) (are.objects class key);
  rules = λ n. at (rule_cell n) (are.rules n);
}
  where
    at : (cell : Cell) → changes steps cell ≡ None → written z cell ≡ written v cell
    at cell none =
        ap (λ (c : Changes). c cell) takes.changes
        ∙ ap (λ c. option_or c (written w cell)) none
        ∙ ap (λ es. changes es cell) only.writes

-- a cell that the steps don't name
beside : (base : Cells) (below steps : Changes) (cell : Cell) → steps cell ≡ None → over base (stacked below steps) cell ≡ over base below cell
beside base below steps cell none = ap (λ c. changed (base cell) (option_or c (below cell))) none

-- ---- one detector

pub detector_stepped : {event : Event} {p : Primitive} {n : ℕ} {v w : Seeing} {o : Option Occurrence} (found : Option CellValue) (next : Knowledge)
    → OnlyReads v w → Shows w (detector_cell n) (now_in v (detector_cell n)) → found ≡ now_in w (detector_cell n) → GoesOnePlace event p found o next
    → StepsOn event p n w o next
detector_stepped found next only shows is steps = record {
  found = found;
  shows = λ base held. shown_now only shows base held ∙ sym is;
  steps = steps;
}

-- ---- one enabled rule

module _ (library : Library) (p : Primitive) (n : ℕ) (rule : Rule) (at : rule_at library n ≡ rule) where
  pub hears_pure : (v : Seeing) (o : Option Occurrence) → is_pure rule.event ≡ true → ((past : History) → o ≡ occurrence_of rule.event (p ∷ past)) → NotifiedEnabled library p n v v o None
  hears_pure v o pure occurs = record {
    extends = λ now depth ns reads before steps tasks apart out grows shows so_far.
        heard_pure (level_at library now depth) p n o (ap (λ (r : Rule). is_pure r.event) at ∙ pure) (λ past. occurs past ∙ ap (λ (r : Rule). occurrence_of r.event (p ∷ past)) (sym at)) grows so_far
        (λ base held. ap status_at (beside base (written v) steps (rule_cell n) out.status) ∙ shows base held);
  }

  pub hears_stepped : (v z : Seeing) (o : Option Occurrence) (next : Knowledge) → is_pure rule.event ≡ false → OnlyReads v z → StepsOn rule.event p n z o next
      → NotifiedEnabled library p n v z o (Some next)
  hears_stepped v z o next impure only stepped = record {
    extends = λ now depth ns reads before steps tasks apart out grows shows so_far.
        let s : StepsOn (rule_at library n).event p n z o next = subst (λ (r : Rule). StepsOn r.event p n z o next) (sym at) stepped in
        heard_stepped (level_at library now depth) p n {detector = s.found} o (knowledge_at s.found) next (ap (λ (r : Rule). is_pure r.event) at ∙ impure) apart refl s.steps
        (Grows-then grows (grows_only only)) so_far
        (λ base held. ap status_at (beside base (written v) steps (rule_cell n) out.status) ∙ shows base (held_before (grows_only only) base held))
        (λ base held. beside base (written v) steps (detector_cell n) out.detector ∙ ap (λ es. over base (changes es) (detector_cell n)) (sym only.writes) ∙ s.shows base held)
        (stacked-with_change (written z) steps (detector_cell n) (Some (knowledge_value next))
        ∙ ap (λ es. with_change (stacked (changes es) steps) (detector_cell n) (Some (Some (knowledge_value next)))) only.writes);
  }

-- ---- one rule

-- a rule's status, as a view's reads show it
abbrev pub ShowsStatus : Seeing → ℕ → Status → Type 0
ShowsStatus w n s = (base : Cells) → Holds base w.reads → status_at (over base (written w) (rule_cell n)) ≡ s

module _ (library : Library) (now : ℕ) (p : Primitive) (n : ℕ) (v w : Seeing) (s : Status) (only : OnlyReads v w) (shows : ShowsStatus w n s) where
  -- with the writes before the read of the status
  before_read : {depth : ℕ} {ns : List ℕ} {before : Changes} (steps : Changes) {tasks : List Task} → Heard (level_at library now depth) p ns v.reads before (stacked (written v) steps) tasks
      → Heard (level_at library now depth) p ns v.reads before (stacked (written w) steps) tasks
  before_read {depth} {ns} {before} steps {tasks} so_far = subst (λ es. Heard (level_at library now depth) p ns v.reads before (stacked (changes es) steps) tasks) (sym only.writes) so_far

  -- and with the steps over them
  shows_beside : (steps : Changes) → LeaveOut n steps → (base : Cells) → Holds base w.reads → status_at (over base (stacked (written w) steps) (rule_cell n)) ≡ s
  shows_beside steps out base held = ap status_at (beside base (written w) steps (rule_cell n) out.status) ∙ shows base held

  pub tells_idle : (s ≡ enabled → ⊥) → Notified library now p n v w None None
  tells_idle idle = record {
    extends = λ depth ns before steps tasks apart out so_far.
        subst (Heard (level_at library now depth) p (ns ++ n ∷ []) w.reads before (stacked (written w) steps)) (sym (append-nil tasks))
        (heard_idle (level_at library now depth) p n s idle (grows_only only) (before_read steps so_far) (shows_beside steps out));
  }

  pub tells_nowhere : s ≡ enabled → slice_get library.rules n ≡ None → Notified library now p n v w None None
  tells_nowhere is none = record {
    extends = λ depth ns before steps tasks apart out so_far.
        heard_nowhere (level_at library now depth) p n (past_end library.rules n none) (grows_only only) (before_read steps so_far) (λ base held. shows_beside steps out base held ∙ is);
  }

  task_then : (rule : Rule) (d depth : ℕ) (o : Option Occurrence) (task : Option Task) → task ≡ option_map (condition_task n rule.event_coupling now d) o
      → option_map (at_depth (suc depth)) task ≡ option_map (triggered_by (level_at library now depth) n rule) o
  task_then rule d depth o task is = ap (option_map (at_depth (suc depth))) is ∙ by o
    where
      by : (o : Option Occurrence) → option_map (at_depth (suc depth)) (option_map (condition_task n rule.event_coupling now d) o) ≡ option_map (triggered_by (level_at library now depth) n rule) o
      by None = refl
      by (Some x) = refl

  pub tells_enabled : (z : Seeing) (d : ℕ) (o : Option Occurrence) (task : Option Task) (next : Option Knowledge) → s ≡ enabled
      → task ≡ option_map (condition_task n (rule_at library n).event_coupling now d) o
      → NotifiedEnabled library p n w z o next → Notified library now p n v z task next
  tells_enabled z d o task next is made notified = record {
    extends = λ depth ns before steps tasks apart out so_far.
        subst (λ t. Heard (level_at library now depth) p (ns ++ n ∷ []) z.reads before (stacked (written z) (with_step steps n next)) (tasks ++ option_to_list t))
        (sym (task_then (rule_at library n) d depth o task made))
        (notified.extends now depth ns v.reads before steps tasks apart out (grows_only only) (λ base held. shows base held ∙ is) (before_read steps so_far));
  }

-- ---- all rules

-- the rules of a list have been notified, and these are the steps of their detectors
pub record HaveHeard (library : Library) (now : ℕ) (p : Primitive) (ns : List ℕ) (old new : Seeing) (steps : Changes) (tasks : List Task) : Type 0 where
  pub heard : (depth : ℕ) → Heard (level_at library now depth) p ns new.reads (written old) (stacked (written new) steps) (map (at_depth (suc depth)) tasks)
  pub are_steps : AreSteps steps
  pub others : (m : ℕ) → is_in m ns ≡ false → steps (detector_cell m) ≡ None

-- a rule that isn't in a longer list
out_of_more : (m n : ℕ) (ns : List ℕ) → is_in m (ns ++ n ∷ []) ≡ false → (is_in m ns ≡ false) × ((n == m) ≡ false)
out_of_more m n ns out =
    or_parts (is_in m ns) (n == m) (sym (list_any-append (λ k. k == m) ns (n ∷ []) ∙ ap (λ b. is_in m ns || b) (or-false (n == m))) ∙ out)

module _ (library : Library) (p : Primitive) where
  pub none_heard : (now : ℕ) (v : Seeing) → HaveHeard library now p [] v v no_changes []
  none_heard now v = record {
    heard = λ depth. heard_none (level_at library now depth) p v.reads (written v);
    are_steps = record { objects = λ class key. refl; rules = λ n. refl };
    others = λ m out. refl;
  }

  map_option : (f : Task → Task) (t : Option Task) → map f (option_to_list t) ≡ option_to_list (option_map f t)
  map_option f None = refl
  map_option f (Some t) = refl

  more_heard : (now : ℕ) (ns : List ℕ) (n : ℕ) {v w z : Seeing} {steps : Changes} {tasks : List Task} {task : Option Task} {next : Option Knowledge} → is_in n ns ≡ false
      → HaveHeard library now p ns v w steps tasks → Notified library now p n w z task next → HaveHeard library now p (ns ++ n ∷ []) v z (with_step steps n next) (tasks ++ option_to_list task)
  more_heard now ns n {v} {w} {z} {steps} {tasks} {task} {next} apart so_far notified = record {
    heard = λ depth.
        subst (Heard (level_at library now depth) p (ns ++ n ∷ []) z.reads (written v) (stacked (written z) (with_step steps n next))) (made depth)
        (notified.extends depth ns (written v) steps (map (at_depth (suc depth)) tasks) apart (record { status = so_far.are_steps.rules n; detector = so_far.others n apart }) (so_far.heard depth));
    are_steps = step_more n next so_far.are_steps;
    others = λ m out. let both = out_of_more m n ns out in still m next both.1 (so_far.others m both.0);
  }
    where
      made : (depth : ℕ) → map (at_depth (suc depth)) tasks ++ option_to_list (option_map (at_depth (suc depth)) task) ≡ map (at_depth (suc depth)) (tasks ++ option_to_list task)
      made depth = ap (λ ts. map (at_depth (suc depth)) tasks ++ ts) (sym (map_option (at_depth (suc depth)) task)) ∙ sym (map-append (at_depth (suc depth)) tasks (option_to_list task))

      still : (m : ℕ) (next : Option Knowledge) → (n == m) ≡ false → steps (detector_cell m) ≡ None → with_step steps n next (detector_cell m) ≡ None
      still m None out none = none
      still m (Some k) out none = with_change-apart steps (detector_cell n) (Some (Some (knowledge_value k))) (detector_cell m) out ∙ none

  -- a mentioned rule doesn't also precede its position in the list
  apart_before : (before : List ℕ) (n : ℕ) (rest : List ℕ) → before ++ n ∷ rest ≡ mentioning library p → is_in n before ≡ false
  apart_before before n rest all =
      sym (ap₂ is_in (get_or-append_seam before n rest 0) (take-append_seam before (n ∷ rest)))
      ∙ subst (λ (ms : List ℕ). length before < length ms → is_in (get_or ms (length before) 0) (take (length before) ms) ≡ false) (sym all) (mentioned_once library p (length before)) within
    where
      within : length before < length (before ++ n ∷ rest)
      within = omega (arith, length-append before (n ∷ rest))

-- ---- the mentioned rules among the listed ones

module _ (library : Library) (p : Primitive) (ns : List ℕ) where
  -- those among the first
  abbrev pub mentioned_among : ℕ → List ℕ
  mentioned_among i = filter (is_mentioned library.rules p) (take i ns)

  module _ (now : ℕ) (all : filter (is_mentioned library.rules p) ns ≡ mentioning library p) where
    pub told_listed : (i n : ℕ) {v w z : Seeing} {steps : Changes} {tasks : List Task} {task : Option Task} {next : Option Knowledge} → i < length ns
        → n ≡ get_or ns i 0 → is_mentioned library.rules p n ≡ true
        → HaveHeard library now p (mentioned_among i) v w steps tasks → Notified library now p n w z task next
        → HaveHeard library now p (mentioned_among (i + 1)) v z (with_step steps n next) (tasks ++ option_to_list task)
    told_listed i n {v} {w} {z} {steps} {tasks} {task} {next} below is mentioned so_far notified =
        subst (λ ms. HaveHeard library now p ms v z (with_step steps n next) (tasks ++ option_to_list task)) (sym one_more)
        (more_heard library p now (mentioned_among i) n (apart_before library p (mentioned_among i) n rest (sym split ∙ all)) so_far notified)
      where
        rest : List ℕ
        rest = filter (is_mentioned library.rules p) (drop (i + 1) ns)

        one_more : mentioned_among (i + 1) ≡ mentioned_among i ++ n ∷ []
        one_more =
            filter_more (is_mentioned library.rules p) ns i 0 below
            ∙ ap (λ m. mentioned_among i ++ cond (is_mentioned library.rules p m) (m ∷ []) []) (sym is)
            ∙ ap (λ b. mentioned_among i ++ cond b (n ∷ []) []) mentioned

        split : filter (is_mentioned library.rules p) ns ≡ mentioned_among i ++ n ∷ rest
        split =
            ap (filter (is_mentioned library.rules p)) (sym (take-append-drop (i + 1) ns))
            ∙ filter-append (is_mentioned library.rules p) (take (i + 1) ns) (drop (i + 1) ns)
            ∙ ap (λ ms. ms ++ rest) one_more
            ∙ append_assoc (mentioned_among i) (n ∷ []) rest

    -- the steps of all of them are written
    pub all_listed : (i : ℕ) {v w z : Seeing} {steps : Entries} {tasks : List Task} → length ns ≤ i → HaveHeard library now p (mentioned_among i) v w (changes steps) tasks
        → TakesIn w z steps → AllNotified library now p v z tasks
    all_listed i {v} {w} {z} {steps} {tasks} past so_far takes = record {
      heard = λ depth.
          subst (λ reads. Faithful library (λ S. triggered (level_at library now depth) (extended p S)) (extended p) reads (written v) (written z) (map (at_depth (suc depth)) tasks)) (sym takes.reads)
          (subst (λ to. Faithful library (λ S. triggered (level_at library now depth) (extended p S)) (extended p) w.reads (written v) to (map (at_depth (suc depth)) tasks)) (sym takes.changes)
          (faithful_heard (level_at library now depth) p (ap (filter (is_mentioned library.rules p)) (take_all i ns past) ∙ all) (so_far.heard depth)));
    }

-- ---- depths

pub depth_more : (d : ℕ) (ts : List RustTask) (t : Option RustTask) → AreAt d (map task_of ts) → ((u : RustTask) → t ≡ Some u → u.depth ≡ d) → AreAt d (map task_of (ts ++ option_to_list t))
depth_more d [] None at is = tt
depth_more d [] (Some t) at is = (is t refl, tt)
depth_more d (u ∷ ts) t at is = (at.0, depth_more d ts t at.1 is)

-- tasks with one more, if there is one
pub tasks_more : (ts : List RustTask) (t : Option RustTask) → map task_of ts ++ option_to_list (option_map task_of t) ≡ map task_of (ts ++ option_to_list t)
tasks_more [] None = refl
tasks_more [] (Some t) = refl
tasks_more (u ∷ ts) t = ap (λ us. task_of u ∷ us) (tasks_more ts t)

-- tasks that stand at a depth already
pub same_depth : (d : ℕ) (ts : List Task) → AreAt d ts → map (at_depth d) ts ≡ ts
same_depth d [] at = refl
same_depth d (t ∷ ts) at = ap (λ (k : ℕ). record { rule = t.rule; step = t.step; place = t.place; depth = k; now = t.now; occurrence = t.occurrence } ∷ map (at_depth d) ts) (sym at.0)
    ∙ ap (λ us. t ∷ us) (same_depth d ts at.1)
