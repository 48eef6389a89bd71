-- A signal notifies the rules that mention it, one after another.
use Rattle.std.proofs.Common.{arith, ◌≡◌, ◌≢◌, refl, ap, ap₂, sym, ◌∙◌, subst, ℕ, zero, suc, ◌+◌, ◌<◌, ◌≤◌, Bool, true, false, true≢false, List, [], ◌∷◌, ◌++◌, map, length, Option}
use Rattle.std.proofs.Common.{Some, None, append-nil, drop, take, get_or, ltb-true, ltb-false}
use Rattle.std.specs.Prelude.{◌==◌, ◌||◌, option_map, option_to_list, filter_map, if◌then◌else◌, slice_get, nat_lt}
use Rattle.std.specs.List.{slice_index_or, list_any}
use Rattle.std.proofs.lemmas.List.{get_or_past, map-append}
use Rattle.std.proofs.lemmas.List.Folds.{list_any-append}
use Rattle.std.proofs.lemmas.List.Elements.{filter_map-append}
use Rattle.std.proofs.Math.Bool.{or-false}
use Rattle.std.proofs.lemmas.Bool.{or_parts}
use Rattle.std.proofs.lemmas.Bool.Decides.{Decides-eqb}
use Rattle.std.specs.Option.{option_or}
use Rattle.hp_model.specs.Occurrences.{Primitive, History, Occurrence, primitive_occurrence}
use Rattle.hp_model.specs.Events.{Event, pattern_event, or_event, seq_event, closure_event, is_pure, mentions, occurrence_of, occurrences, occurrences_since, sequences, gathered, joined, closed}
use Rattle.hp_model.specs.Knowledge.{Knowledge, nothing_known, knowledge, of_either, of_sequence, of_closure}
use Rattle.hp_model.specs.Rules.{Rule, no_rule, Library, rule_at}
use Rattle.hp_model.specs.State.{State, Status, absent, enabled, disabled, RuleState, rule_state, with_status, extended, IsOrdered}
use Rattle.hp_model.specs.Mentions.{mentioning_from, mentioning}
use Rattle.hp_model.specs.Cells.{Cell, object_cell, rule_cell, detector_cell, CellValue, knowledge_value, Cells, cells, status_in, same_cell, Changes, changed, over, with_change, Read, Holds}
use Rattle.hp_model.specs.Tree.{Task}
use Rattle.hp_model.specs.Firing.{Level, triggered_by, triggered}
use Rattle.hp_model.specs.Soundness.{Faithful}
use Rattle.hp_model.proofs.Detecting.{advance, advance_lem, after_second, gathered_next}
use Rattle.hp_model.proofs.BridgesCells.{over-with_change}
use Rattle.hp_model.proofs.BridgesOrdered.{extended_ordered}
use Rattle.hp_model.proofs.BridgesReads.{status_at, knowledge_at, known_by, status-cells, known-cells, detector-cells, detector-cells-pure, detector-cells-idle}
use Rattle.hp_model.proofs.BridgesSignals.{heard, extended-detector, extended-status, task_by, task_at, tasks_at, triggered-cells}
use Rattle.hp_model.proofs.Faithful.{Grows, held_before}

-- ---- a step at which no pattern of an event matches changes nothing

none_joined : (o : Option Occurrence) → joined o None ≡ None
none_joined None = refl
none_joined (Some x) = refl

none_closed : (o : Option Occurrence) → closed o None ≡ None
none_closed None = refl
none_closed (Some x) = refl

pub unheard : (e : Event) (p : Primitive) (h : History) → mentions e p ≡ false → advance e (knowledge e h) p ≡ (None, knowledge e h)
unheard (pattern_event pattern) p h apart = ap (λ b. (if b then Some (primitive_occurrence p) else None, nothing_known)) apart
unheard (or_event a b) p h apart =
    let both = or_parts (mentions a p) (mentions b p) apart in
    ap₂ (λ (r s : Option Occurrence × Knowledge). (option_or r.0 s.0, of_either r.1 s.1)) (unheard a p h both.0) (unheard b p h both.1)
unheard (seq_event a b) p h apart =
    let both = or_parts (mentions a p) (mentions b p) apart in
    let w = drop (length (sequences (occurrence_of a) (occurrence_of b) h)) (occurrences (occurrence_of a) h) in
    ap₂ (λ (r s : Option Occurrence × Knowledge). (joined (slice_get w 0) s.0, of_sequence r.1 s.1 (after_second s.0 w ++ option_to_list r.0))) (unheard a p h both.0) (unheard b p h both.1)
    ∙ (λ i. (none_joined (slice_get w 0) i, of_sequence (knowledge a h) (knowledge b h) (append-nil w i)))
unheard (closure_event a t) p h apart =
    let both = or_parts (mentions a p) (mentions t p) apart in
    let u = gathered (occurrences_since (occurrence_of t) (occurrence_of a) h) in
    ap₂ (λ (r s : Option Occurrence × Knowledge). (closed u s.0, of_closure r.1 s.1 (gathered_next s.0 r.0 u))) (unheard a p h both.0) (unheard t p h both.1)
    ∙ (λ i. (none_closed u i, of_closure (knowledge a h) (knowledge t h) u))

-- ---- the rules that mention it

abbrev pub is_in : ℕ → List ℕ → Bool
is_in n ns = list_any (λ m. m == n) ns

unlisted : (n k i : ℕ) (rules : List Rule) (p : Primitive) → is_in n (mentioning_from k rules p) ≡ false → n ≡ k + i → i < length rules → mentions (slice_index_or rules i no_rule).event p ≡ false
unlisted n k i [] p apart is below = absurd (omega arith)
unlisted n k i (rule ∷ rules) p apart is below = at i is below (mentions rule.event p) refl apart (λ j out e low. unlisted n (suc k) j rules p out e low)
  where
    at : (j : ℕ) → n ≡ k + j → j < length (rule ∷ rules) → (b : Bool) → mentions rule.event p ≡ b → is_in n (if b then k ∷ mentioning_from (suc k) rules p else mentioning_from (suc k) rules p) ≡ false
        → ((j : ℕ) → is_in n (mentioning_from (suc k) rules p) ≡ false → n ≡ suc k + j → j < length rules → mentions (slice_index_or rules j no_rule).event p ≡ false)
        → mentions (slice_index_or (rule ∷ rules) j no_rule).event p ≡ false
    at zero is below true here out later =
        let same : k ≡ n = omega arith in
        absurd (true≢false (sym ((Decides-eqb k n).1 same) ∙ (or_parts (k == n) (is_in n (mentioning_from (suc k) rules p)) out).0))
    at zero is below false here out later = here
    at (suc j) is below true here out later = later j (or_parts (k == n) (is_in n (mentioning_from (suc k) rules p)) out).1 (omega arith) (omega arith)
    at (suc j) is below false here out later = later j out (omega arith) (omega arith)

-- each of them occurs once
other_number : (k n : ℕ) → k ≢ n → (k == n) ≡ false
other_number k n apart = by (k == n) refl
  where
    by : (b : Bool) → (k == n) ≡ b → (k == n) ≡ false
    by true is = absurd (apart ((Decides-eqb k n).0 is))
    by false is = is

least : (k i : ℕ) (rules : List Rule) (p : Primitive) → i < length (mentioning_from k rules p) → k ≤ get_or (mentioning_from k rules p) i 0
least k i [] p below = absurd (omega arith)
least k i (rule ∷ rules) p below = at i (mentions rule.event p) below (λ j low. least (suc k) j rules p low)
  where
    at : (j : ℕ) (b : Bool) → j < length (if b then k ∷ mentioning_from (suc k) rules p else mentioning_from (suc k) rules p)
        → ((j : ℕ) → j < length (mentioning_from (suc k) rules p) → suc k ≤ get_or (mentioning_from (suc k) rules p) j 0)
        → k ≤ get_or (if b then k ∷ mentioning_from (suc k) rules p else mentioning_from (suc k) rules p) j 0
    at zero true low later = omega arith
    at zero false low later = let h = later 0 low in omega (arith, h)
    at (suc j) true low later = let l : j < length (mentioning_from (suc k) rules p) = omega (arith, low) in let h = later j l in omega (arith, h)
    at (suc j) false low later = let h = later (suc j) low in omega (arith, h)

once_from : (k i : ℕ) (rules : List Rule) (p : Primitive) → i < length (mentioning_from k rules p)
    → is_in (get_or (mentioning_from k rules p) i 0) (take i (mentioning_from k rules p)) ≡ false
once_from k i [] p below = absurd (omega arith)
once_from k i (rule ∷ rules) p below = at i (mentions rule.event p) below (λ j low. once_from (suc k) j rules p low) (λ j low. least (suc k) j rules p low)
  where
    at : (j : ℕ) (b : Bool) → j < length (if b then k ∷ mentioning_from (suc k) rules p else mentioning_from (suc k) rules p)
        → ((j : ℕ) → j < length (mentioning_from (suc k) rules p) → is_in (get_or (mentioning_from (suc k) rules p) j 0) (take j (mentioning_from (suc k) rules p)) ≡ false)
        → ((j : ℕ) → j < length (mentioning_from (suc k) rules p) → suc k ≤ get_or (mentioning_from (suc k) rules p) j 0)
        → is_in (get_or (if b then k ∷ mentioning_from (suc k) rules p else mentioning_from (suc k) rules p) j 0)
        (take j (if b then k ∷ mentioning_from (suc k) rules p else mentioning_from (suc k) rules p)) ≡ false
    at zero true low later above = refl
    at zero false low later above = later 0 low
    at (suc j) true low later above =
        let l : j < length (mentioning_from (suc k) rules p) = omega (arith, low) in
        let x = get_or (mentioning_from (suc k) rules p) j 0 in
        let far = above j l in
        ap (λ b. b || is_in x (take j (mentioning_from (suc k) rules p))) (other_number k x (λ e. absurd (omega (arith, e, far)))) ∙ later j l
    at (suc j) false low later above = later (suc j) low

-- a rule doesn't also precede its position in the list
pub mentioned_once : (library : Library) (p : Primitive) (i : ℕ) → i < length (mentioning library p) → is_in (get_or (mentioning library p) i 0) (take i (mentioning library p)) ≡ false
mentioned_once library p i below = once_from 0 i library.rules p below

-- ---- the cells after the rules of a list have been notified

abbrev pub told : Library → Primitive → List ℕ → Cells → Cells
told library p ns base (object_cell c k) = base (object_cell c k)
told library p ns base (rule_cell n) = base (rule_cell n)
told library p ns base (detector_cell n) =
    if is_in n ns then changed (base (detector_cell n)) (heard (rule_at library n) p (base (detector_cell n))) else base (detector_cell n)

told-none : (library : Library) (p : Primitive) (base : Cells) → told library p [] base ≡ base
told-none library p base i q = at q i
  where
    at : (q : Cell) → told library p [] base q ≡ base q
    at (object_cell c k) = refl
    at (rule_cell n) = refl
    at (detector_cell n) = refl

in_more : (n m : ℕ) (ns : List ℕ) → is_in m (ns ++ n ∷ []) ≡ (is_in m ns || (n == m))
in_more n m ns = list_any-append (λ k. k == m) ns (n ∷ []) ∙ ap (λ b. is_in m ns || b) (or-false (n == m))

-- a rule whose knowledge doesn't change
told-silent : (library : Library) (p : Primitive) (n : ℕ) (ns : List ℕ) (base : Cells)
    → changed (base (detector_cell n)) (heard (rule_at library n) p (base (detector_cell n))) ≡ base (detector_cell n)
    → told library p (ns ++ n ∷ []) base ≡ told library p ns base
told-silent library p n ns base silent i q = at q i
  where
    by : (m : ℕ) (a b : Bool) → (n == m) ≡ b
        → (if a || b then changed (base (detector_cell m)) (heard (rule_at library m) p (base (detector_cell m))) else base (detector_cell m))
        ≡ (if a then changed (base (detector_cell m)) (heard (rule_at library m) p (base (detector_cell m))) else base (detector_cell m))
    by m true b is = refl
    by m false true is = subst (λ k. changed (base (detector_cell k)) (heard (rule_at library k) p (base (detector_cell k))) ≡ base (detector_cell k)) ((Decides-eqb n m).0 is) silent
    by m false false is = refl

    at : (q : Cell) → told library p (ns ++ n ∷ []) base q ≡ told library p ns base q
    at (object_cell c k) = refl
    at (rule_cell m) = refl
    at (detector_cell m) =
        ap (λ b. if b then changed (base (detector_cell m)) (heard (rule_at library m) p (base (detector_cell m))) else base (detector_cell m)) (in_more n m ns)
        ∙ by m (is_in m ns) (n == m) refl

-- a rule whose knowledge changes
told-more : (library : Library) (p : Primitive) (n : ℕ) (ns : List ℕ) (base : Cells) (v : CellValue) → changed (base (detector_cell n)) (heard (rule_at library n) p (base (detector_cell n))) ≡ Some v
    → (q : Cell) → changed (told library p ns base q) (if same_cell (detector_cell n) q then Some (Some v) else None) ≡ told library p (ns ++ n ∷ []) base q
told-more library p n ns base v learns (object_cell c k) = refl
told-more library p n ns base v learns (rule_cell m) = refl
told-more library p n ns base v learns (detector_cell m) =
    by (is_in m ns) (n == m) refl
    ∙ ap (λ b. if b then changed (base (detector_cell m)) (heard (rule_at library m) p (base (detector_cell m))) else base (detector_cell m)) (sym (in_more n m ns))
  where
    then_is : (n == m) ≡ true → Some v ≡ changed (base (detector_cell m)) (heard (rule_at library m) p (base (detector_cell m)))
    then_is is = sym (subst (λ k. changed (base (detector_cell k)) (heard (rule_at library k) p (base (detector_cell k))) ≡ Some v) ((Decides-eqb n m).0 is) learns)

    by : (a b : Bool) → (n == m) ≡ b
        → changed (if a then changed (base (detector_cell m)) (heard (rule_at library m) p (base (detector_cell m))) else base (detector_cell m)) (if b then Some (Some v) else None)
        ≡ (if a || b then changed (base (detector_cell m)) (heard (rule_at library m) p (base (detector_cell m))) else base (detector_cell m))
    by true true is = then_is is
    by false true is = then_is is
    by true false is = refl
    by false false is = refl

told-apart : (library : Library) (p : Primitive) (n : ℕ) (ns : List ℕ) (base : Cells) → is_in n ns ≡ false → told library p ns base (detector_cell n) ≡ base (detector_cell n)
told-apart library p n ns base apart = ap (λ b. if b then changed (base (detector_cell n)) (heard (rule_at library n) p (base (detector_cell n))) else base (detector_cell n)) apart

-- ---- a state's cells

nothing_heard : (rule : Rule) (p : Primitive) (value : Option CellValue) → value ≡ None → changed value (heard rule p value) ≡ value
nothing_heard rule p None is = refl
nothing_heard rule p (Some v) is = cc

unheard_detector : (library : Library) (p : Primitive) (S : State) (n : ℕ) → mentions (rule_at library n).event p ≡ false
    → changed (cells library S (detector_cell n)) (heard (rule_at library n) p (cells library S (detector_cell n))) ≡ cells library S (detector_cell n)
unheard_detector library p S n apart = by_status (rule_state S n).status refl
  where
    rule : Rule
    rule = rule_at library n

    past : History
    past = (rule_state S n).past

    silent : Option CellValue → Type 0
    silent value = changed value (heard rule p value) ≡ value

    by_pure : (rule_state S n).status ≡ enabled → (b : Bool) → is_pure rule.event ≡ b → silent (cells library S (detector_cell n))
    by_pure is true pure = nothing_heard rule p (cells library S (detector_cell n)) (detector-cells-pure library S n pure)
    by_pure is false pure =
        subst silent (sym (detector-cells library S n is pure)) (ap (λ (a : Option Occurrence × Knowledge). Some (knowledge_value a.1)) (unheard rule.event p past apart))

    by_status : (s : Status) → (rule_state S n).status ≡ s → silent (cells library S (detector_cell n))
    by_status absent is = nothing_heard rule p (cells library S (detector_cell n)) (detector-cells-idle library S n (λ e. absurd (absent_apart (sym is ∙ e))))
      where
        absent_apart : absent ≡ enabled → ⊥
        absent_apart e = cc
    by_status enabled is = by_pure is (is_pure rule.event) refl
    by_status disabled is = nothing_heard rule p (cells library S (detector_cell n)) (detector-cells-idle library S n (λ e. absurd (disabled_apart (sym is ∙ e))))
      where
        disabled_apart : disabled ≡ enabled → ⊥
        disabled_apart e = cc

-- notifying all rules that mention it notifies all rules
pub told-all : (library : Library) (p : Primitive) (S : State) → IsOrdered library S → told library p (mentioning library p) (cells library S) ≡ cells library (extended p S)
told-all library p S ordered i q = at q i
  where
    none_there : absent ≡ enabled → ⊥
    none_there e = cc

    in_range : (n : ℕ) (b : Bool) → nat_lt n (length library.rules) ≡ b → is_in n (mentioning library p) ≡ false
        → changed (cells library S (detector_cell n)) (heard (rule_at library n) p (cells library S (detector_cell n))) ≡ cells library S (detector_cell n)
    in_range n true below apart = unheard_detector library p S n (unlisted n 0 n library.rules p apart (omega arith) (ltb-true n (length library.rules) below))
    in_range n false above apart =
        let past : length library.rules ≤ n = ltb-false n (length library.rules) above in
        nothing_heard (rule_at library n) p (cells library S (detector_cell n))
        (detector-cells-idle library S n (λ e. none_there (sym (ap (λ (r : RuleState). r.status) (get_or_past S.rules n (with_status absent) (omega (arith, ordered.each_rule)))) ∙ e)))

    by : (n : ℕ) (b : Bool) → is_in n (mentioning library p) ≡ b
        → (if b then changed (cells library S (detector_cell n)) (heard (rule_at library n) p (cells library S (detector_cell n))) else cells library S (detector_cell n))
        ≡ changed (cells library S (detector_cell n)) (heard (rule_at library n) p (cells library S (detector_cell n)))
    by n true is = refl
    by n false is = sym (in_range n (nat_lt n (length library.rules)) refl is)

    at : (q : Cell) → told library p (mentioning library p) (cells library S) q ≡ cells library (extended p S) q
    at (object_cell c k) = refl
    at (rule_cell n) = ap status_in (sym (extended-status p S n))
    at (detector_cell n) = by n (is_in n (mentioning library p)) refl ∙ sym (extended-detector library p S n)

-- ---- the tasks of the rules that have been notified

abbrev pub task_for : Level → Primitive → Cells → ℕ → Option Task
task_for level p now n = task_at level n (rule_at level.library n) p (now (rule_cell n)) (now (detector_cell n))

abbrev pub tasks_for : Level → Primitive → Cells → List ℕ → List Task
tasks_for level p now ns = filter_map (λ t. t) (map (task_for level p now) ns)

-- a rule's task, from its status and what is known of its past
task_of_state : (level : Level) (p : Primitive) (S : State) (n : ℕ) (s : Status) → (rule_state S n).status ≡ s
    → task_for level p (cells level.library S) n ≡ task_by s level n (rule_at level.library n)
    (advance (rule_at level.library n).event (known_by (rule_at level.library n).event (cells level.library S (detector_cell n))) p).0
task_of_state level p S n s is =
    ap (λ t. task_by t level n (rule_at level.library n) (advance (rule_at level.library n).event (known_by (rule_at level.library n).event (cells level.library S (detector_cell n))) p).0)
    (sym (status-cells level.library S n) ∙ is)

untriggered : (level : Level) (p : Primitive) (S : State) (n : ℕ) → mentions (rule_at level.library n).event p ≡ false → task_for level p (cells level.library S) n ≡ None
untriggered level p S n apart = by (rule_state S n).status refl
  where
    rule : Rule
    rule = rule_at level.library n

    by : (s : Status) → (rule_state S n).status ≡ s → task_for level p (cells level.library S) n ≡ None
    by absent is = task_of_state level p S n absent is
    by enabled is =
        task_of_state level p S n enabled is
        ∙ ap (λ k. option_map (triggered_by level n rule) (advance rule.event k p).0) (known-cells level.library S n is)
        ∙ ap (λ (a : Option Occurrence × Knowledge). option_map (triggered_by level n rule) a.0) (unheard rule.event p (rule_state S n).past apart)
    by disabled is = task_of_state level p S n disabled is

tasks_from : (level : Level) (p : Primitive) (S : State) (k : ℕ) (rules : List Rule) → ((i n : ℕ) → i < length rules → n ≡ k + i → rule_at level.library n ≡ slice_index_or rules i no_rule)
    → tasks_for level p (cells level.library S) (mentioning_from k rules p) ≡ filter_map (λ t. t) (tasks_at level p (cells level.library S) k rules)
tasks_from level p S k [] at = refl
tasks_from level p S k (rule ∷ rules) at =
    let here = at 0 k (omega arith) (omega arith) in
    by (mentions rule.event p) refl here (tasks_from level p S (suc k) rules (λ i n below is. at (suc i) n (omega arith) (omega arith)))
  where
    now : Cells
    now = cells level.library S

    first : Rule → Option Task
    first r = task_at level k r p (now (rule_cell k)) (now (detector_cell k))

    by : (b : Bool) → mentions rule.event p ≡ b → rule_at level.library k ≡ rule
        → tasks_for level p now (mentioning_from (suc k) rules p) ≡ filter_map (λ t. t) (tasks_at level p now (suc k) rules)
        → tasks_for level p now (if b then k ∷ mentioning_from (suc k) rules p else mentioning_from (suc k) rules p) ≡ filter_map (λ t. t) (first rule ∷ tasks_at level p now (suc k) rules)
    by true is here rest =
        filter_map-append (λ t. t) (first (rule_at level.library k) ∷ []) (map (task_for level p now) (mentioning_from (suc k) rules p))
        ∙ ap₂ (λ (r : Rule) (ts : List Task). filter_map (λ t. t) (first r ∷ []) ++ ts) here rest
        ∙ sym (filter_map-append (λ t. t) (first rule ∷ []) (tasks_at level p now (suc k) rules))
    by false is here rest =
        rest
        ∙ ap (λ o. filter_map (λ t. t) (o ∷ tasks_at level p now (suc k) rules))
        (sym (untriggered level p S k (ap (λ (r : Rule). mentions r.event p) here ∙ is)) ∙ ap first here)

pub tasks_all : (level : Level) (p : Primitive) (S : State) → IsOrdered level.library S
    → tasks_for level p (cells level.library S) (mentioning level.library p) ≡ triggered level (extended p S)
tasks_all level p S ordered =
    tasks_from level p S 0 level.library.rules (λ i n below is. let e : n ≡ i = omega arith in ap (rule_at level.library) e)
    ∙ sym (triggered-cells level p S ordered)

-- ---- the loop over the rules that mention it

module _ (level : Level) (p : Primitive) where
  -- the rules of the list have been notified, wherever the reads hold, and these are their tasks
  pub record Heard (ns : List ℕ) (reads : List Read) (before now : Changes) (tasks : List Task) : Type 0 where
    pub from : (base : Cells) → Holds base reads → (S : State) → IsOrdered level.library S → cells level.library S ≡ over base before
        → (over base now ≡ told level.library p ns (cells level.library S)) × (tasks ≡ tasks_for level p (cells level.library S) ns)

  pub heard_none : (reads : List Read) (writes : Changes) → Heard [] reads writes writes []
  heard_none reads writes = record { from = λ base held S ordered is. (sym is ∙ sym (told-none level.library p (cells level.library S)), refl) }

  one_task : (now : Cells) (n : ℕ) (ns : List ℕ) (tasks : List Task) (o : Option Task) → tasks ≡ tasks_for level p now ns → task_for level p now n ≡ o
      → tasks ++ option_to_list o ≡ tasks_for level p now (ns ++ n ∷ [])
  one_task now n ns tasks o are is =
      ap₂ (λ (ts : List Task) (t : Option Task). ts ++ option_to_list t) are (sym is)
      ∙ ap (λ ts. tasks_for level p now ns ++ ts) (alone (task_for level p now n))
      ∙ sym (ap (filter_map (λ (t : Option Task). t)) (map-append (task_for level p now) ns (n ∷ [])) ∙ filter_map-append (λ (t : Option Task). t)
      (map (task_for level p now) ns) (task_for level p now n ∷ []))
    where
      alone : (t : Option Task) → option_to_list t ≡ filter_map (λ (u : Option Task). u) (t ∷ [])
      alone None = refl
      alone (Some t) = refl

  -- what the rule's status was when the signal began
  status_then : {ns : List ℕ} {reads more : List Read} {before now : Changes} {tasks : List Task} (n : ℕ) {s : Status} → Grows reads more → Heard ns reads before now tasks
      → ((base : Cells) → Holds base more → status_at (over base now (rule_cell n)) ≡ s)
      → (base : Cells) → Holds base more → (S : State) → IsOrdered level.library S → cells level.library S ≡ over base before → (rule_state S n).status ≡ s
  status_then n grows so_far shows base held S ordered is =
      status-cells level.library S n
      ∙ ap status_at (sym (ap (λ c. c (rule_cell n)) (so_far.from base (held_before grows base held) S ordered is).0)) ∙ shows base held

  -- a rule that isn't enabled
  pub heard_idle : {ns : List ℕ} {reads more : List Read} {before now : Changes} {tasks : List Task} (n : ℕ) (s : Status) → (s ≡ enabled → ⊥)
      → Grows reads more → Heard ns reads before now tasks → ((base : Cells) → Holds base more → status_at (over base now (rule_cell n)) ≡ s) → Heard (ns ++ n ∷ []) more before now tasks
  heard_idle {ns} {reads} {more} {before} {now} {tasks} n s idle grows so_far shows = record {
    from = λ base held S ordered is.
        let h = so_far.from base (held_before grows base held) S ordered is in
        let status = status_then n grows so_far shows base held S ordered is in
        let unheard = nothing_heard (rule_at level.library n) p (cells level.library S (detector_cell n)) (detector-cells-idle level.library S n (λ e. idle (sym status ∙ e))) in
        let no_task : task_for level p (cells level.library S) n ≡ None =
        task_of_state level p S n s status
        ∙ not_enabled s idle (rule_at level.library n) (advance (rule_at level.library n).event (known_by (rule_at level.library n).event (cells level.library S (detector_cell n))) p).0 in (
          h.0 ∙ sym (told-silent level.library p n ns (cells level.library S) unheard),
          sym (append-nil tasks) ∙ one_task (cells level.library S) n ns tasks None h.1 no_task,
        );
  }
    where
      not_enabled : (s : Status) → (s ≡ enabled → ⊥) → (rule : Rule) (o : Option Occurrence) → task_by s level n rule o ≡ None
      not_enabled absent apart rule o = refl
      not_enabled enabled apart rule o = absurd (apart refl)
      not_enabled disabled apart rule o = refl

  -- no state has an enabled rule where the library has none
  pub heard_nowhere : {ns : List ℕ} {reads more : List Read} {before now after : Changes} {tasks others : List Task} (n : ℕ) → length level.library.rules ≤ n
      → Grows reads more → Heard ns reads before now tasks → ((base : Cells) → Holds base more → status_at (over base now (rule_cell n)) ≡ enabled) → Heard (ns ++ n ∷ []) more before after others
  heard_nowhere n past grows so_far shows = record {
    from = λ base held S ordered is.
        let none = ap (λ (r : RuleState). r.status) (get_or_past S.rules n (with_status absent) (omega (arith, past, ordered.each_rule))) in
        absurd (absent_apart (sym none ∙ status_then n grows so_far shows base held S ordered is));
  }
    where
      absent_apart : absent ≡ enabled → ⊥
      absent_apart e = cc

  -- an enabled rule whose event doesn't look back
  pub heard_pure : {ns : List ℕ} {reads more : List Read} {before now : Changes} {tasks : List Task} (n : ℕ) (o : Option Occurrence)
      → is_pure (rule_at level.library n).event ≡ true → ((past : History) → o ≡ occurrence_of (rule_at level.library n).event (p ∷ past))
      → Grows reads more → Heard ns reads before now tasks → ((base : Cells) → Holds base more → status_at (over base now (rule_cell n)) ≡ enabled)
      → Heard (ns ++ n ∷ []) more before now (tasks ++ option_to_list (option_map (triggered_by level n (rule_at level.library n)) o))
  heard_pure {ns} {reads} {more} {before} {now} {tasks} n o pure occurs grows so_far shows = record {
    from = λ base held S ordered is.
        let h = so_far.from base (held_before grows base held) S ordered is in
        let status = status_then n grows so_far shows base held S ordered is in
        let rule = rule_at level.library n in
        let unheard = nothing_heard rule p (cells level.library S (detector_cell n)) (detector-cells-pure level.library S n pure) in
        let task : task_for level p (cells level.library S) n ≡ option_map (triggered_by level n rule) o =
        task_of_state level p S n enabled status
        ∙ ap (λ k. option_map (triggered_by level n rule) (advance rule.event k p).0) (known-cells level.library S n status)
        ∙ ap (λ (a : Option Occurrence × Knowledge). option_map (triggered_by level n rule) a.0) (advance_lem rule.event p (rule_state S n).past)
        ∙ ap (option_map (triggered_by level n rule)) (sym (occurs (rule_state S n).past)) in (
          h.0 ∙ sym (told-silent level.library p n ns (cells level.library S) unheard),
          one_task (cells level.library S) n ns tasks (option_map (triggered_by level n rule) o) h.1 task,
        );
  }

  -- an enabled rule whose event looks back, from its detector's cell
  pub heard_stepped : {ns : List ℕ} {reads more : List Read} {before now after : Changes} {tasks : List Task} (n : ℕ) {detector : Option CellValue}
      (o : Option Occurrence) (k : Option Knowledge) (next : Knowledge)
      → is_pure (rule_at level.library n).event ≡ false → is_in n ns ≡ false → k ≡ knowledge_at detector
      → ((past : History) → k ≡ Some (knowledge (rule_at level.library n).event past) → (o ≡ occurrence_of (rule_at level.library n).event (p ∷ past))
      × (next ≡ knowledge (rule_at level.library n).event (p ∷ past)))
      → Grows reads more → Heard ns reads before now tasks → ((base : Cells) → Holds base more → status_at (over base now (rule_cell n)) ≡ enabled)
      → ((base : Cells) → Holds base more → over base now (detector_cell n) ≡ detector)
      → after ≡ with_change now (detector_cell n) (Some (Some (knowledge_value next)))
      → Heard (ns ++ n ∷ []) more before after (tasks ++ option_to_list (option_map (triggered_by level n (rule_at level.library n)) o))
  heard_stepped {ns} {reads} {more} {before} {now} {after} {tasks} n {detector} o k next impure apart known goes_on grows so_far shows shows_detector writes = record {
    from = λ base held S ordered is.
        let h = so_far.from base (held_before grows base held) S ordered is in
        let status = status_then n grows so_far shows base held S ordered is in
        let rule = rule_at level.library n in
        let past = (rule_state S n).past in
        let there : cells level.library S (detector_cell n) ≡ Some (knowledge_value (knowledge rule.event past)) = detector-cells level.library S n status impure in
        let read : detector ≡ Some (knowledge_value (knowledge rule.event past)) =
        sym (shows_detector base held) ∙ ap (λ c. c (detector_cell n)) h.0 ∙ told-apart level.library p n ns (cells level.library S) apart ∙ there in
        let knows : k ≡ Some (knowledge rule.event past) = known ∙ ap knowledge_at read in
        let step = goes_on past knows in
        let learns : changed (cells level.library S (detector_cell n)) (heard rule p (cells level.library S (detector_cell n))) ≡ Some (knowledge_value next) =
        ap (λ c. changed c (heard rule p c)) there ∙ ap (λ (a : Option Occurrence × Knowledge). Some (knowledge_value a.1)) (advance_lem rule.event p past)
        ∙ ap (λ j. Some (knowledge_value j)) (sym step.1) in
        let task : task_for level p (cells level.library S) n ≡ option_map (triggered_by level n rule) o =
        task_of_state level p S n enabled status
        ∙ ap (λ j. option_map (triggered_by level n rule) (advance rule.event j p).0) (known-cells level.library S n status)
        ∙ ap (λ (a : Option Occurrence × Knowledge). option_map (triggered_by level n rule) a.0) (advance_lem rule.event p past)
        ∙ ap (option_map (triggered_by level n rule)) (sym step.0) in (
          (λ i q. (ap (λ c. over base c q) writes ∙ sym (over-with_change base now (detector_cell n) (Some (knowledge_value next)) q)
              ∙ ap (λ (c : Cells). changed (c q) (if same_cell (detector_cell n) q then Some (Some (knowledge_value next)) else None)) h.0
              ∙ told-more level.library p n ns (cells level.library S) (knowledge_value next) learns q) i),
          one_task (cells level.library S) n ns tasks (option_map (triggered_by level n rule) o) h.1 task,
        );
  }

  -- all rules have been notified
  pub faithful_heard : {ns : List ℕ} {reads : List Read} {before now : Changes} {tasks : List Task} → ns ≡ mentioning level.library p → Heard ns reads before now tasks
      → Faithful level.library (λ S. triggered level (extended p S)) (extended p) reads before now tasks
  faithful_heard {ns} {reads} {before} {now} {tasks} all so_far = record {
    from = λ base held S ordered is.
        let h = so_far.from base held S ordered is in
        record {
          answers = sym (h.1 ∙ ap (tasks_for level p (cells level.library S)) all ∙ tasks_all level p S ordered);
          reaches = sym (h.0 ∙ ap (λ l. told level.library p l (cells level.library S)) all ∙ told-all level.library p S ordered);
          ordered = extended_ordered level.library p S ordered;
        };
  }
