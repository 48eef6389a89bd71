-- Generations and cascades on a view.
use Rattle.std.proofs.Common.{◌≡◌, refl, sym, ap, ◌∙◌, subst, ℕ, suc, ◌≤◌, length, ◌+◌, ◌-◌, ◌<◌, List, [], ◌∷◌, ◌++◌, Some, map, arith}
use Rattle.std.proofs.lemmas.List.{map-append}
use Rattle.hp_model.specs.Rules.{Library}
use Rattle.hp_model.specs.Tree.{Task}
use Rattle.hp_model.specs.Transactions as X
use Rattle.hp_model.specs.Cascade.{top, task_work, due, cascade, most_rounds, TransactionReport}
use Rattle.hp_model.specs.Answers.{TopAnswer, GenerationAnswer, reported}
use Rattle.hp_model.proofs.FaithfulTops.{GenerationCompletes, generation_more, generation_end, CascadeCompletes, cascade_more, cascade_end, cascade_over}
use Rattle.hp_view.specs.Seeing.{Seeing, written, GoesOn}
use Rattle.hp_view.proofs.Views.{GoesOn-same, GoesOn-then}
use Rattle.hp_rule.specs.declared.task.Task.{Task as RuleTask}
use Rattle.hp_rule.specs.declared.task.Detached.{Detached}
use Rattle.hp_rule.specs.Mapped.{task, detached}
use Rattle.hp_tree.specs.declared.report.TopReport.{TopReport}
use Rattle.hp_tree.specs.Mapped.{top_report}
use Rattle.hp_top.specs.declared.top.Top.{Top}
use Rattle.hp_top.specs.declared.generations.Generation.{Generation}
use Rattle.hp_top.specs.Mapped.{top_of, generation_of}
use Rattle.hp_top.specs.Runs.{RunsTop, RunsGeneration, RunsCascade}
use Rattle.hp_top.proofs.Coursing.{grows}

-- ---- a generation

-- some tasks of a generation have run, and these are left
pub record GenerationLeft (library : Library) (all left : List Task) (first now : Seeing) (so_far : GenerationAnswer) : Type 0 where
  pub goes_on : GoesOn first now
  pub completes : GenerationCompletes library all (written first) left now.reads (written now) so_far

pub generation_next : {library : Library} {all : List Task} {t : Task} {ts : List Task} {first now new : Seeing} {so_far : GenerationAnswer} {a : TopAnswer}
    → GenerationLeft library all (t ∷ ts) first now so_far → RunsTop library (top library t.now t.depth (task_work library t)) now new a
    → GenerationLeft library all ts first new (record { transactions = so_far.transactions ++ reported (Some t) a ∷ []; detached = so_far.detached ++ a.detached })
generation_next {library} {all} {first = first} p q = record {
  goes_on = GoesOn-then p.goes_on q.goes_on;
  completes = generation_more library all (written first) (grows q.goes_on) p.completes q.faithful;
}

-- one more task has run
pub generation_ran : {library : Library} {all : List Task} {first now new : Seeing} (t : RuleTask) (left rest : List RuleTask) (tops tops' : List TopReport) (ds ds' : List Detached) (one : Top)
    → left ≡ t ∷ rest → tops' ≡ tops ++ record { task = Some (t.rule, t.place); end = one.end; tree = one.tree } ∷ [] → ds' ≡ ds ++ one.detached.items
    → GenerationLeft library all (map task left) first now (record { transactions = map top_report tops; detached = map detached ds })
    → RunsTop library (top library (task t).now (task t).depth (task_work library (task t))) now new (top_of one)
    → GenerationLeft library all (map task rest) first new (record { transactions = map top_report tops'; detached = map detached ds' })
generation_ran {library} {all} {first} {now} {new} t left rest tops tops' ds ds' one are pushed joined p q =
    let report : TopReport = record { task = Some (t.rule, t.place); end = one.end; tree = one.tree } in
    subst (λ (x : List TransactionReport × List X.Detached). GenerationLeft library all (map task rest) first new (record { transactions = x.0; detached = x.1 }))
    (λ i. ((sym (map-append top_report tops (report ∷ [])) ∙ ap (map top_report) (sym pushed)) i, (sym (map-append detached ds one.detached.items) ∙ ap (map detached) (sym joined)) i))
    (generation_next (subst (λ ts. GenerationLeft library all (map task ts) first now (record { transactions = map top_report tops; detached = map detached ds })) are p) q)

pub generation_all : {library : Library} {all : List Task} {first now : Seeing} {so_far : GenerationAnswer} → GenerationLeft library all [] first now so_far
    → RunsGeneration library all first now so_far
generation_all {library} {all} {first = first} p = record { goes_on = p.goes_on; faithful = generation_end library all (written first) p.completes }

-- ---- a cascade

-- some generations have run, and these tasks are due
pub record CascadeLeft (library : Library) (all : List Task) (left : ℕ) (tasks : List Task) (first now : Seeing) (so_far : List TransactionReport) : Type 0 where
  pub goes_on : GoesOn first now
  pub completes : CascadeCompletes library (cascade (most_rounds library) library all) (written first) left tasks now.reads (written now) so_far

pub cascade_none : (library : Library) (all : List Task) (left : ℕ) (v : Seeing) → most_rounds library ≡ left → CascadeLeft library all left all v v []
cascade_none library all left v whole = record {
  goes_on = GoesOn-same v;
  completes = subst (λ n. CascadeCompletes library (cascade (most_rounds library) library all) (written v) n all v.reads (written v) []) whole (record { by = λ more after rest on p. p });
}

pub cascade_next : (t : Task) (ts : List Task) {library : Library} {all tasks : List Task} {most i : ℕ} {first now new : Seeing} {so_far : List TransactionReport} {g : GenerationAnswer}
    → tasks ≡ t ∷ ts → i < most
    → CascadeLeft library all (most - i) tasks first now so_far → RunsGeneration library tasks now new g
    → CascadeLeft library all (most - (i + 1)) (due g.detached) first new (so_far ++ g.transactions)
cascade_next t ts {library} {all} {tasks} {most} {i} {first} {now} {new} {so_far} {g} are low p q =
    let left : most - i ≡ suc (most - (i + 1)) = omega arith in
    let q' : RunsGeneration library (t ∷ ts) now new g = subst (λ us. RunsGeneration library us now new g) are q in
    let p' : CascadeLeft library all (suc (most - (i + 1))) (t ∷ ts) first now so_far =
    subst (λ us. CascadeLeft library all (suc (most - (i + 1))) us first now so_far) are (subst (λ n. CascadeLeft library all n tasks first now so_far) left p) in
    record {
      goes_on = GoesOn-then p.goes_on q.goes_on;
      completes = cascade_more library (cascade (most_rounds library) library all) (written first) (grows q.goes_on) p'.completes q'.faithful;
    }

pub cascade_empty : {library : Library} {all tasks : List Task} {left : ℕ} {first now : Seeing} {so_far : List TransactionReport} → tasks ≡ [] → CascadeLeft library all left tasks first now so_far
    → RunsCascade library all first now so_far
cascade_empty {library} {all} {tasks} {left} {first} {now} {so_far} none p =
    let p' : CascadeLeft library all left [] first now so_far = subst (λ us. CascadeLeft library all left us first now so_far) none p in
    record { goes_on = p.goes_on; faithful = cascade_end library (cascade (most_rounds library) library all) (written first) p'.completes }

pub cascade_all : {library : Library} {all tasks : List Task} {left : ℕ} {first now : Seeing} {so_far : List TransactionReport} → left ≡ 0 → CascadeLeft library all left tasks first now so_far
    → RunsCascade library all first now so_far
cascade_all {library} {all} {tasks} {left} {first} {now} {so_far} none p =
    let p' : CascadeLeft library all 0 tasks first now so_far = subst (λ n. CascadeLeft library all n tasks first now so_far) none p in
    record { goes_on = p.goes_on; faithful = cascade_over library (cascade (most_rounds library) library all) (written first) p'.completes }

pub cascade_started : (library : Library) (all : List Task) (left : ℕ) (v : Seeing) (reports : List TopReport) → most_rounds library ≡ left → reports ≡ []
    → CascadeLeft library all left all v v (map top_report reports)
cascade_started library all left v reports whole none =
    subst (λ (rs : List TopReport). CascadeLeft library all left all v v (map top_report rs)) (sym none) (cascade_none library all left v whole)

-- one more generation has run
pub cascade_ran : {library : Library} {all : List Task} {most i : ℕ} {first now new : Seeing} (next next' : List RuleTask) (reports reports' : List TopReport) (g : Generation)
    → 1 ≤ length next → i < most → reports' ≡ reports ++ g.tops.items → map task next' ≡ due (map detached g.detached.items)
    → CascadeLeft library all (most - i) (map task next) first now (map top_report reports)
    → RunsGeneration library (map task next) now new (generation_of g)
    → CascadeLeft library all (most - (i + 1)) (map task next') first new (map top_report reports')
cascade_ran [] next' reports reports' g some low joined is_due p q = absurd (omega arith)
cascade_ran {library} {all} {most} {i} {first} {now} {new} (t ∷ ts) next' reports reports' g some low joined is_due p q =
    subst (λ (x : List Task × List TransactionReport). CascadeLeft library all (most - (i + 1)) x.0 first new x.1)
    (λ j. (sym is_due j, (sym (map-append top_report reports g.tops.items) ∙ ap (map top_report) (sym joined)) j))
    (cascade_next (task t) (map task ts) refl low p q)
