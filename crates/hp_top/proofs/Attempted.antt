-- Units on a view, and on the committed store.
use Rattle.std.proofs.Common.{◌≡◌, refl, sym, ap, ◌∙◌, subst, ℕ, ◌+◌, ◌<◌, ◌≤◌, List, [], ◌∷◌, ◌++◌, Option, None, map, take, length, get_or, length-append, arith}
use Rattle.std.proofs.lemmas.List.{map-append, take-map, take_more, length-map}
use Rattle.hp_model.specs.Rules.{Library}
use Rattle.hp_model.specs.State.{State, IsOrdered, initial_state}
use Rattle.hp_model.specs.Cascade as model
use Rattle.hp_model.specs.Cascade.{now_in, top, unit_work, due, time_of, run_unit, run_units, unit_report}
use Rattle.hp_model.specs.Cells.{Cells, Cell, cells, over, Changes, Read, Holds}
use Rattle.hp_model.specs.Laws.{replay_transactions, replay_units}
use Rattle.hp_model.specs.Soundness.{LeadsTo}
use Rattle.hp_model.proofs.FaithfulTops.{faithful_unit}
use Rattle.hp_model.proofs.Replayed.{unit_after, units_replayed}
use Rattle.hp_model.proofs.Lawful.{lawful}
use Rattle.hp_model.proofs.UnitRuns.{units_push, initial_cells, initial_ordered}
use Rattle.hp_model.proofs.FitStates.{initial_fits}
use Rattle.hp_rule.specs.declared.task.Task.{Task}
use Rattle.hp_rule.specs.declared.unit.Unit.{Unit}
use Rattle.hp_rule.specs.Mapped.{task, detached, unit}
use Rattle.hp_store.specs.Changes.{Entries, changes}
use Rattle.hp_store.specs.Stack.{Stack, cells_in}
use Rattle.hp_tree.specs.declared.report.TopReport.{TopReport}
use Rattle.hp_tree.specs.declared.report.UnitReport.{UnitReport}
use Rattle.hp_tree.specs.Mapped.{top_report, unit_report as unit_report_of}
use Rattle.hp_view.specs.Seeing.{Seeing}
use Rattle.hp_view.proofs.Views.{GoesOn-then}
use Rattle.hp_top.specs.declared.top.Top.{Top}
use Rattle.hp_top.specs.Mapped.{top_of}
use Rattle.hp_top.specs.Runs.{RunsTop, RunsCascade, RunsUnit}
use Rattle.hp_top.specs.Units.{IsSoundUnit, RanUnit, IsReplayed, IsLawful, RanNext, RanUnits, AreReplayed, IsOpening}
use Rattle.hp_top.proofs.Coursing.{grows}

-- its own transaction, and the cascade of what that detached
pub unit_runs : (u : model.Unit) {library : Library} {first second third : Seeing} (t : Top) (tasks : List Task) (later tops : List TopReport) (m : Option ℕ)
    → RunsTop library (top library (now_in u) 0 (unit_work library u)) first second (top_of t) → map task tasks ≡ due (map detached t.detached.items)
    → RunsCascade library (map task tasks) second third (map top_report later) → tops ≡ record { task = None; end = t.end; tree = t.tree } ∷ later → m ≡ time_of u
    → RunsUnit library u first third (record { time = m; transactions = map top_report tops })
unit_runs u {library} {first} {second} {third} t tasks later tops m p are q all time =
    let q' : RunsCascade library (due (map detached t.detached.items)) second third (map top_report later) = subst (λ ts. RunsCascade library ts second third (map top_report later)) are q in
    subst (λ (x : Option ℕ × List TopReport). RunsUnit library u first third (record { time = x.0; transactions = map top_report x.1 })) (λ i. (sym time i, sym all i))
    (record { goes_on = GoesOn-then p.goes_on q.goes_on; faithful = faithful_unit u (grows q.goes_on) p.faithful q'.faithful })

-- the same for a view of a snapshot without writes
pub sound_unit : {library : Library} {u : model.Unit} {first new : Seeing} {report : model.UnitReport} (reads : List Read) (layer : Entries) → first.writes ≡ []
    → reads ≡ new.reads → layer ≡ new.writes
    → RunsUnit library u first new report → IsSoundUnit library u reads (changes layer) report
sound_unit {library} {u} {first} {new} {report} reads layer none reads_are layer_is p =
    subst (λ (x : List Read × Entries). IsSoundUnit library u x.0 (changes x.1) report) (λ i. (sym reads_are i, sym layer_is i))
    (record { from = λ S ordered held. p.faithful.from (cells library S) held S ordered (ap (λ es. over (cells library S) (changes es)) (sym none)) })

pub snapshot_held : {base first new : Stack} (reads : List Read) → first ≡ base → new ≡ first → Holds (cells_in new) reads → Holds (cells_in base) reads
snapshot_held reads was same held = subst (λ s. Holds (cells_in s) reads) (same ∙ was) held

-- ---- on the committed store

pub ran_unit : {library : Library} {u : model.Unit} {reads : List Read} {layer : Changes} {report : model.UnitReport} {base old : Stack} {after : Cells}
    → IsSoundUnit library u reads layer report → base ≡ old
    → Holds (cells_in base) reads → after ≡ over (cells_in old) layer → RanUnit library u (cells_in old) after report
ran_unit {library} {u} {reads} {layer} {report} {base} {old} {after} sound same held applied = record {
  from = λ S ordered is.
      let led = sound.from S ordered (subst (λ B. Holds B reads) (ap cells_in same ∙ sym is) held) in
      record { answers = led.answers; reaches = led.reaches ∙ ap (λ B. over B layer) is ∙ sym applied; ordered = led.ordered };
}

pub unit_replayed : {library : Library} {u : model.Unit} {before after : Cells} {report : model.UnitReport} → RanUnit library u before after report → IsReplayed library u before report
unit_replayed {library} {u} {before} {after} {report} ran = record {
  from = λ S ordered is. unit_after library u S ∙ ap (λ (r : model.UnitReport). replay_transactions S.objects r.transactions) (ran.from S ordered is).answers;
}

pub unit_lawful : {library : Library} {u : model.Unit} {before after : Cells} {report : model.UnitReport} → RanUnit library u before after report → IsLawful library u before report
unit_lawful {library} {u} ran = record {
  reported = λ S ordered is. ap (λ (r : model.UnitReport). r.transactions) (ran.from S ordered is).answers;
  lawful = λ S ordered is. lawful library u S;
}

-- ---- units one after another

-- the first i units ran
pub record RanSoFar (library : Library) (items : List Unit) (i : ℕ) (before now : Cells) (reports : List model.UnitReport) : Type 0 where
  pub many : length reports ≡ i
  pub from : (S : State) → IsOrdered library S → cells library S ≡ before
      → LeadsTo library (run_units library (map unit (take i items)) S).units (run_units library (map unit (take i items)) S).state reports now

pub ran_none : (library : Library) (items : List Unit) (before : Cells) → RanSoFar library items 0 before before []
ran_none library items before = record { many = refl; from = λ S ordered is. record { answers = refl; reaches = is; ordered = ordered } }

pub ran_one : {library : Library} {items : List Unit} {i : ℕ} {before now new : Cells} {former reports : List model.UnitReport} (u : Unit) → i < length items → u ≡ get_or items i u
    → RanSoFar library items i before now former → RanNext library (unit u) now new former reports → RanSoFar library items (i + 1) before new reports
ran_one {library} {items} {i} {before} {now} {new} {former} {reports} u low is_item p q =
    let taken : map unit (take (i + 1) items) ≡ map unit (take i items) ++ unit u ∷ [] =
    ap (map unit) (take_more items i u low ∙ ap (λ x. take i items ++ x ∷ []) (sym is_item)) ∙ map-append unit (take i items) (u ∷ []) in
    record {
      many = ap length q.reported ∙ length-append former (q.report ∷ []) ∙ ap (λ n. n + 1) p.many;
      from = λ S ordered is.
          let one = p.from S ordered is in
          let last = q.ran.from (run_units library (map unit (take i items)) S).state one.ordered one.reaches in
          subst (λ us. LeadsTo library (run_units library us S).units (run_units library us S).state reports new) (sym taken)
          (subst (λ (e : model.Evaluation). LeadsTo library e.units e.state reports new) (sym (units_push library (map unit (take i items)) (unit u) S))
          (record {
            answers = (λ j. one.answers j ++ last.answers j ∷ []) ∙ sym q.reported;
            reaches = last.reaches;
            ordered = last.ordered;
          }));
    }

pub ran_units : {library : Library} {items : List Unit} {i : ℕ} {before now : Cells} {reports : List model.UnitReport} → i ≤ length items → RanSoFar library items i before now reports
    → RanUnits library (map unit items) before now reports
ran_units {library} {items} {i} {before} {now} {reports} low p =
    let taken : map unit (take i items) ≡ take (length reports) (map unit items) = sym (take-map unit i items) ∙ ap (λ n. take n (map unit items)) (sym p.many) in
    record {
      within = omega (arith, p.many, length-map items unit);
      from = λ S ordered is. subst (λ us. LeadsTo library (run_units library us S).units (run_units library us S).state reports now) taken (p.from S ordered is);
    }

-- a unit that didn't run leaves the store and the reports unchanged
pub stopped_after : {library : Library} {us : List model.Unit} {before : Cells} {old new : Stack} {former reports : List UnitReport} → new ≡ old → reports ≡ former
    → RanUnits library us before (cells_in old) (map unit_report_of former) → RanUnits library us before (cells_in new) (map unit_report_of reports)
stopped_after {library} {us} {before} same none p = subst (λ (x : Stack × List UnitReport). RanUnits library us before (cells_in x.0) (map unit_report_of x.1)) (λ i. (sym same i, sym none i)) p

pub units_are_replayed : {library : Library} {us : List model.Unit} {before now : Cells} {reports : List model.UnitReport} → RanUnits library us before now reports
    → AreReplayed library us before reports
units_are_replayed {library} {us} {before} {now} {reports} ran = record {
  from = λ S ordered is. units_replayed library (take (length reports) us) S ∙ ap (replay_units S.objects) (ran.from S ordered is).answers;
}

-- the opening's cells
pub opening_cells : (base : Cells) → ((q : Cell) → base q ≡ None) → IsOpening base
opening_cells base empty =
    let same : (library : Library) → cells library (initial_state library) ≡ base = λ library. λ i q. (initial_cells library q ∙ sym (empty q)) i in
    record { cells = same; ordered = initial_ordered; fit = λ library. (initial_state library, initial_fits library, same library) }
