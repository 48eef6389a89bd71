-- Nothing in the runs of a checked rule base ends because of a kind, or since firings nest too deep.
use Rattle.std.proofs.Common.{arith, ◌≡◌, refl, sym, subst, ◌∙◌, ℕ, zero, suc, ◌+◌, ◌≤◌, Bool, true, false, IsTrue, List, [], ◌∷◌, ◌++◌, flat_map, length, Option, None, Some, Result, Ok, Err}
use Rattle.std.proofs.lemmas.Bool.{and_parts}
use Rattle.std.specs.Prelude.{replicate, if◌then◌else◌}
use Rattle.std.specs.Option.{option_or}
use Rattle.std.specs.List.{AllByRecursion, list_all}
use Rattle.hp_model.specs.Values.{Cause}
use Rattle.hp_model.specs.Rules.{Library}
use Rattle.hp_model.specs.State.{State, RuleState, IsFit, with_status, absent}
use Rattle.hp_model.specs.Tree.{Ending, committed, aborted, Condition, without_action, with_fault, with_action, with_later_action, Node, sub_node, fire_node, act_node, Items}
use Rattle.hp_model.specs.Tree.{no_items, operation, emission, detachment, node}
use Rattle.hp_model.specs.Cascade.{Unit, Transaction, transactions_of, run_unit, run_units}
use Rattle.hp_model.specs.Chains.{NotTooDeep, library_within}
use Rattle.hp_model.specs.Endings.{Ended, whole_transaction, inner_node, condition_of, everywhere, EndsOnlyBy, FaultsOnlyBy, NodeHasOnly, TreeHasOnly, TransactionsHaveOnly, ReportHasOnly}
use Rattle.hp_model.specs.Kinds.{Declared, is_declared, library_kinded, unit_kinded, KindedCause, ArePastsDeclared}
use Rattle.hp_model.specs.Decode.{Schedule}
use Rattle.hp_model.specs.Ranges.{IsFitLibrary, unit_fits}
use Rattle.hp_model.specs.Report.{Bytes}
use Rattle.hp_model.proofs.Endings.{reports_only}
use Rattle.hp_model.proofs.FitStates.{initial_fits}
use Rattle.hp_model.proofs.FitUnits.{unit_keeps_fit}
use Rattle.hp_model.proofs.KindUnits.{kinds_hold}
use Rattle.hp_model.proofs.Shallow.{chains_bound, bounds_each_unit}
use Rattle.hp_script.specs.Timed.{TimedScript}
use Rattle.hp_script.specs.Requests.{Request, item, show}
use Rattle.hp_notation.specs.Readings.{timed_script_in, request_in}
use Rattle.hp_analysis.specs.Depths.{least_from, library_depth}
use Rattle.hp_analysis.specs.Findings.{Finding, finds_nothing, unit_findings}
use Rattle.hp_analysis.specs.KindFindings.{KindFinding, kind_findings}
use Rattle.hp_analysis.proofs.All.{script_judged}
use Rattle.hp_analysis.proofs.Judging.{both_nothing, unit_judged}
use Rattle.hp_lines.specs.Lines.{Line}
use Rattle.hp_lines.specs.Checked.{kinds_fault, depth_fault, script_fault, body_fault, request_fault, passed}
use Rattle.hp_lines.specs.Live.{Manner, RuleBase, new_base, Stage, unopened, up, closed, Answer, ran, opening_answer, later_answer, answer, reports, stage_after}
use Rattle.hp_lines.specs.Sound.{SoundCause, IsSoundBase, IsSoundStage, UnitsFit, LineFits, LinesFit, CheckedAreSound, CheckedStaySound}
use Rattle.hp_lines.proofs.Checked.{passed_read}

-- ---- what two sets of causes end, their common causes end

module _ (a b both : Ended → Cause → Type 0) (join : (what : Ended) (c : Cause) → a what c → b what c → both what c) where
  ends_both : (what : Ended) (e : Ending) → EndsOnlyBy (a what) e → EndsOnlyBy (b what) e → EndsOnlyBy (both what) e
  ends_both what committed h k = tt
  ends_both what (aborted c) h k = join what c h k

  faults_both : (what : Ended) (c : Condition) → FaultsOnlyBy (a what) c → FaultsOnlyBy (b what) c → FaultsOnlyBy (both what) c
  faults_both what without_action h k = tt
  faults_both what (with_fault c) h k = join what c h k
  faults_both what with_action h k = tt
  faults_both what with_later_action h k = tt

  node_both : (what : Node) → NodeHasOnly a what → NodeHasOnly b what → NodeHasOnly both what
  node_both sub_node h k = tt
  node_both (fire_node rule place condition) h k = faults_both (condition_of rule) condition h k
  node_both (act_node rule place) h k = tt

  tree_both : (items : Items) → TreeHasOnly a items → TreeHasOnly b items → TreeHasOnly both items
  tree_both no_items h k = tt
  tree_both (operation op rest) h k = tree_both rest h k
  tree_both (emission v rest) h k = tree_both rest h k
  tree_both (detachment t rest) h k = tree_both rest h k
  tree_both (node what end inside rest) h k =
      (((node_both what h.0.0.0 k.0.0.0, ends_both (inner_node what) end h.0.0.1 k.0.0.1), tree_both inside h.0.1 k.0.1), tree_both rest h.1 k.1)

  transactions_both : (ts : List Transaction) → TransactionsHaveOnly a ts → TransactionsHaveOnly b ts → TransactionsHaveOnly both ts
  transactions_both [] h k = tt
  transactions_both (t ∷ ts) h k =
      ((ends_both whole_transaction t.ending h.0.0 k.0.0, tree_both t.items h.0.1 k.0.1), transactions_both ts h.1 k.1)

sound : (library : Library) (what : Ended) (c : Cause) → KindedCause library what c → everywhere NotTooDeep what c → everywhere SoundCause what c
sound library whole_transaction c h k = (h, k)
sound library (inner_node what) c h k = (h.0, k)
sound library (condition_of rule) c h k = (h.0, k)

-- ---- what no fault says

kinds_pass : (fs : List KindFinding) (o : Option Bytes) → option_or (kinds_fault fs) o ≡ None → finds_nothing fs ≡ true
kinds_pass [] o h = refl
kinds_pass (f ∷ fs) o h = cc

depth_passes : (fs : List KindFinding) (longest : Option ℕ) → option_or (kinds_fault fs) (depth_fault longest) ≡ None → (most : ℕ) × (longest ≡ Some most)
depth_passes [] None h = cc
depth_passes [] (Some most) h = (most, refl)
depth_passes (f ∷ fs) longest h = cc

body_passes : (fs : List Finding) → body_fault fs ≡ None → finds_nothing fs ≡ true
body_passes [] h = refl
body_passes (f ∷ fs) h = cc

all_pass : {A : Type 0} (test : A → Bool) (xs : List A) → list_all test xs ≡ true → AllByRecursion (λ x. IsTrue (test x)) xs
all_pass test [] h = tt
all_pass test (x ∷ xs) h = let parts = and_parts (test x) (list_all test xs) h in (parts.0, all_pass test xs parts.1)

abbrev Kinded : Library → Declared → List Unit → Type 0
Kinded library d us = AllByRecursion (λ u. IsTrue (unit_kinded library d u)) us

units_judged : (library : Library) (d : Declared) (us : List Unit) → finds_nothing (flat_map (unit_findings library d) us) ≡ true → Kinded library d us
units_judged library d [] h = tt
units_judged library d (u ∷ us) h =
    let parts = and_parts (finds_nothing (unit_findings library d u)) (finds_nothing (flat_map (unit_findings library d) us))
    (sym (both_nothing (unit_findings library d u) (flat_map (unit_findings library d) us)) ∙ h) in
    (sym (unit_judged library d u) ∙ parts.0, units_judged library d us parts.1)

-- a least number passes the test, and is not above the last one
abbrev Passing : (test : ℕ → Bool) → (last n : ℕ) → Type 0
Passing test last n = (test n ≡ true) × (n ≤ last)

least_passes : (test : ℕ → Bool) (j more n : ℕ) → least_from test j more ≡ Some n → Passing test (j + more) n
least_passes test j zero n h = by (test j) refl h
  where
    by : (b : Bool) → test j ≡ b → (if b then Some j else None) ≡ Some n → Passing test (j + 0) n
    by true is e = let same : j ≡ n = cc in (subst (λ k. test k ≡ true) same is, omega (arith, same))
    by false is e = cc
least_passes test j (suc more) n h = by (test j) refl h (least_passes test (suc j) more n)
  where
    by : (b : Bool) → test j ≡ b → (if b then Some j else least_from test (suc j) more) ≡ Some n
        → (least_from test (suc j) more ≡ Some n → Passing test (suc j + more) n) → Passing test (j + suc more) n
    by true is e later = let same : j ≡ n = cc in (subst (λ k. test k ≡ true) same is, omega (arith, same))
    by false is e later = let here = later e in (here.0, omega (arith, here.1))

-- ---- units

-- what holds between two units
record Holds (library : Library) (d : Declared) (S : State) : Type 0 where
  state_fits : IsFit library S
  as_declared : ArePastsDeclared d S

module _ (library : Library) (d : Declared) (fits : IsFitLibrary library) (kinded : IsTrue (library_kinded library d)) (most : ℕ) (depth_is : library_depth library ≡ Some most) where
  one_sound : (u : Unit) → IsTrue (unit_fits library u) → IsTrue (unit_kinded library d u) → (S : State) → Holds library d S
      → TransactionsHaveOnly (everywhere SoundCause) (transactions_of (run_unit library u S)) × Holds library d (run_unit library u S).state
  one_sound u fit is S holds =
      let least = least_passes (library_within library) 0 library.depth_limit most depth_is in
      let below : most ≤ library.depth_limit = omega (arith, least.1) in
      let shallow = chains_bound library most below u (bounds_each_unit library most least.0 u) S in
      let kept = kinds_hold library d fits kinded u fit is S holds.state_fits holds.as_declared in (
        transactions_both (KindedCause library) (everywhere NotTooDeep) (everywhere SoundCause) (sound library) (transactions_of (run_unit library u S)) kept.0 shallow.0,
        record { state_fits = unit_keeps_fit library fits u fit S holds.state_fits; as_declared = kept.1 },
      )

  all_sound : (us : List Unit) → UnitsFit library us → Kinded library d us → (S : State) → Holds library d S
      → AllByRecursion (ReportHasOnly (everywhere SoundCause)) (run_units library us S).units × Holds library d (run_units library us S).state
  all_sound [] fit is S holds = (tt, holds)
  all_sound (u ∷ us) fit is S holds =
      let here = one_sound u fit.0 is.0 S holds in
      let later = all_sound us fit.1 is.1 (run_unit library u S).state here.1 in
      ((reports_only (everywhere SoundCause) (transactions_of (run_unit library u S)) here.0, later.0), later.1)

none_declared : (d : Declared) (n : ℕ) → AllByRecursion (λ (r : RuleState). AllByRecursion (λ p. IsTrue (is_declared d p)) r.past) (replicate n (with_status absent))
none_declared d zero = tt
none_declared d (suc n) = (tt, none_declared d n)

-- ---- answers

-- the reports of an answer, and the stage after it
record SoundAnswer (d : Declared) (a : Answer) : Type 0 where
  ran : AllByRecursion (ReportHasOnly (everywhere SoundCause)) a.ran
  stage : IsSoundStage d a.stage

ran_sound : (with_tree : Bool) (d : Declared) (base : RuleBase) (schedule : Schedule) → IsSoundBase d base → UnitsFit base.library schedule.units → Kinded base.library d schedule.units
    → SoundAnswer d (ran with_tree base schedule)
ran_sound with_tree d base schedule is fit kinded =
    let all = all_sound base.library d is.fits is.kinded is.depth is.depth_is schedule.units fit kinded base.state (record { state_fits = is.state_fits; as_declared = is.as_declared }) in
    record {
      ran = all.0;
      stage = record { fits = is.fits; kinded = is.kinded; depth = is.depth; depth_is = is.depth_is; state_fits = all.1.state_fits; as_declared = all.1.as_declared };
    }

opening_sound : (with_tree : Bool) (d : Declared) (read : Result TimedScript Bytes)
    → ((t : TimedScript) → read ≡ Ok t → IsFitLibrary t.script.library × UnitsFit t.script.library t.script.units)
    → (r : Result TimedScript Bytes) → passed (script_fault d) read ≡ r → SoundAnswer d (opening_answer with_tree r)
opening_sound with_tree d read fit (Err refusal) is = record { ran = tt; stage = tt }
opening_sound with_tree d read fit (Ok t) is =
    let passes = passed_read (script_fault d) read t is in
    let library = t.script.library in
    let fs = kind_findings library d t.script.units in
    let known = depth_passes fs (library_depth library) passes.none in
    let kinded = and_parts (library_kinded library d) (list_all (unit_kinded library d) t.script.units)
    (sym (script_judged library d t.script.units) ∙ kinds_pass fs (depth_fault (library_depth library)) passes.none) in
    let fitting = fit t passes.read_is in
    ran_sound with_tree d (new_base t.version library) (record { units = t.script.units; clock = t.clock })
    (record {
      fits = fitting.0;
      kinded = kinded.0;
      depth = known.0;
      depth_is = known.1;
      state_fits = initial_fits library;
      as_declared = none_declared d (length library.rules);
    })
    fitting.1 (all_pass (unit_kinded library d) t.script.units kinded.1)

later_sound : (with_tree : Bool) (d : Declared) (base : RuleBase) (read : Result Request Bytes) → IsSoundBase d base
    → ((s : Schedule) → read ≡ Ok (item s) → UnitsFit base.library s.units)
    → (r : Result Request Bytes) → passed (request_fault base.library d) read ≡ r → SoundAnswer d (later_answer with_tree base r)
later_sound with_tree d base read sound fit (Err refusal) is = record { ran = tt; stage = sound }
later_sound with_tree d base read sound fit (Ok (show excerpt)) is = record { ran = tt; stage = sound }
later_sound with_tree d base read sound fit (Ok (item s)) is =
    let passes = passed_read (request_fault base.library d) read (item s) is in
    ran_sound with_tree d base s sound (fit s passes.read_is)
    (units_judged base.library d s.units (body_passes (flat_map (unit_findings base.library d) s.units) passes.none))

-- by what is checked
abbrev by : Manner → Option Declared → Manner
by manner checks = record { is_text = manner.is_text; with_tree = manner.with_tree; checks = checks }

answer_sound : (manner : Manner) (d : Declared) (stage : Stage) (l : Line) → IsSoundStage d stage → LineFits (by manner (Some d)) stage l → SoundAnswer d (answer (by manner (Some d)) stage l)
answer_sound manner d unopened l sound fit = opening_sound manner.with_tree d (timed_script_in manner.is_text l) fit _ refl
answer_sound manner d (up base) l sound fit =
    later_sound manner.with_tree d base (request_in manner.is_text base.version base.library base.clock l) sound fit _ refl
answer_sound manner d closed l sound fit = record { ran = tt; stage = tt }

each_append : {A : Type 0} (P : A → Type 0) (xs ys : List A) → AllByRecursion P xs → AllByRecursion P ys → AllByRecursion P (xs ++ ys)
each_append P [] ys h k = k
each_append P (x ∷ xs) ys h k = (h.0, each_append P xs ys h.1 k)

lines_sound : (manner : Manner) (d : Declared) (stage : Stage) (ls : List Line) → IsSoundStage d stage → LinesFit (by manner (Some d)) stage ls
    → AllByRecursion (ReportHasOnly (everywhere SoundCause)) (reports (by manner (Some d)) stage ls) × IsSoundStage d (stage_after (by manner (Some d)) stage ls)
lines_sound manner d stage [] sound fit = (tt, sound)
lines_sound manner d stage (l ∷ ls) sound fit =
    let here = answer_sound manner d stage l sound fit.0 in
    let a = answer (by manner (Some d)) stage l in
    let later = lines_sound manner d a.stage ls here.stage fit.1 in
    (each_append (ReportHasOnly (everywhere SoundCause)) a.ran (reports (by manner (Some d)) a.stage ls) here.ran later.0, later.1)

-- ---- the laws

-- what holds of a manner that checks by a declaration holds of each manner that does
module _ (manner : Manner) (d : Declared) (lines : List Line) (is : manner.checks ≡ Some d) (fit : LinesFit manner unopened lines) where
  all_by : (checks : Option Declared) → checks ≡ Some d → LinesFit (by manner checks) unopened lines
      → AllByRecursion (ReportHasOnly (everywhere SoundCause)) (reports (by manner checks) unopened lines) × IsSoundStage d (stage_after (by manner checks) unopened lines)
  all_by None e f = cc
  all_by (Some x) e f =
      let same : d ≡ x = cc in
      subst (λ y. LinesFit (by manner (Some y)) unopened lines → AllByRecursion (ReportHasOnly (everywhere SoundCause)) (reports (by manner (Some y)) unopened lines)
      × IsSoundStage d (stage_after (by manner (Some y)) unopened lines)) same
      (λ g. lines_sound manner d unopened lines tt g) f

  whole : AllByRecursion (ReportHasOnly (everywhere SoundCause)) (reports manner unopened lines) × IsSoundStage d (stage_after manner unopened lines)
  whole = all_by manner.checks is fit

pub checked_are_sound : CheckedAreSound
checked_are_sound manner d lines is fit = (whole manner d lines is fit).0

pub checked_stay_sound : CheckedStaySound
checked_stay_sound manner d lines is fit = (whole manner d lines is fit).1
