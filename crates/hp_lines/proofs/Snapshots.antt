-- That a snapshot answers as the state of which it was taken.
use native.Mathlib.Omega.{arith}
use Rattle.std.proofs.Common.{◌≡◌, refl, ap, ◌∙◌, ℕ, suc, ◌+◌, List, [], ◌∷◌, ◌++◌, length, Result, Ok, Err}
use Rattle.std.specs.Prelude.{codes}
use Rattle.std.specs.List.{slice_index_or}
use Rattle.hp_model.specs.Rules.{Rule, Library}
use Rattle.hp_model.specs.State.{State, RuleState, absent, with_status}
use Rattle.hp_model.specs.Cascade.{UnitReport, run_units}
use Rattle.hp_model.specs.Report.{Bytes, line, status_word, objects_text, rules_text, units_text}
use Rattle.hp_model.specs.Snapshots.{StatesAlike}
use Rattle.hp_model.proofs.Alike.{alike_go_on}
use Rattle.hp_model.proofs.Snapshots.{snapshots_are_alike}
use Rattle.hp_report.specs.Text.{class_text, object_text}
use Rattle.hp_script.specs.Requests.{Excerpt, whole_state, objects_of, object_at, Request, item, show}
use Rattle.hp_lines.specs.Lines.{Line}
use Rattle.hp_lines.specs.Live.{Manner, RuleBase, up, ok_line, excerpt_text, request_for, later_answer, answers}
use Rattle.hp_lines.specs.Snapshots.{with_state, AlikeAnswer, state_by_snapshot, SnapshotsAnswer}

-- rules of the same statuses have the same lines
rules_same : (rules : List Rule) (rs ss : List RuleState) → length rs ≡ length ss
    → ((k : ℕ) → (slice_index_or rs k (with_status absent)).status ≡ (slice_index_or ss k (with_status absent)).status) → rules_text rules rs ≡ rules_text rules ss
rules_same [] rs ss long same = refl
rules_same (rule ∷ rules) [] [] long same = refl
rules_same (rule ∷ rules) [] (s ∷ ss) long same = absurd (omega (arith, long))
rules_same (rule ∷ rules) (r ∷ rs) [] long same = absurd (omega (arith, long))
rules_same (rule ∷ rules) (r ∷ rs) (s ∷ ss) long same = (λ i.
    line 0 (codes "rule" ∷ rule.name ∷ status_word (same 0 i) ∷ []) ++ rules_same rules rs ss (omega (arith, long)) (λ k. same (suc k)) i)

excerpt_same : (library : Library) (S T : State) → StatesAlike library S T → (e : Excerpt) → excerpt_text library S e ≡ excerpt_text library T e
excerpt_same library S T like whole_state = (λ i.
    objects_text library (like.objects i) ++ rules_same library.rules S.rules T.rules like.rules (λ k. (like.each k).status) i)
excerpt_same library S T like (objects_of class) = ap (class_text library class) like.objects
excerpt_same library S T like (object_at class key) = ap (object_text library class key) like.objects

-- an answer, and those to the lines after it
abbrev answered : (manner : Manner) → List Line → RuleBase → Result Request Bytes → Bytes
answered manner ls b r = let a = later_answer manner.with_tree b r in (a.body ++ a.last) ++ answers manner a.stage ls

-- one line, if the later ones have the same answers
one_answer : (manner : Manner) (ls : List Line) (base : RuleBase) (T : State) → StatesAlike base.library base.state T
    → ((b : RuleBase) (S : State) → StatesAlike b.library b.state S → answers manner (up b) ls ≡ answers manner (up (with_state b S)) ls)
    → (r : Result Request Bytes) → answered manner ls base r ≡ answered manner ls (with_state base T) r
one_answer manner ls base T like later (Err e) = ap (λ more. e ++ more) (later base T like)
one_answer manner ls base T like later (Ok (show excerpt)) = (λ i. (excerpt_same base.library base.state T like excerpt i ++ ok_line base.units) ++ later base T like i)
one_answer manner ls base T like later (Ok (item schedule)) =
    let e = run_units base.library schedule.units base.state in
    let f = run_units base.library schedule.units T in
    let same = alike_go_on base.library schedule.units base.state T like in
    let next : List UnitReport → State → RuleBase = λ us S. record { version = base.version; library = base.library; state = S; clock = schedule.clock; units = base.units + length us } in
    let said : List UnitReport → Bytes = λ us. units_text base.library manner.with_tree (base.units + 1) us ++ ok_line (base.units + length us) in
    ap (λ more. said e.units ++ more) (later (next e.units e.state) f.state same.1) ∙ ap (λ us. said us ++ answers manner (up (next us f.state)) ls) same.0

pub alike_answer : AlikeAnswer
alike_answer manner [] base T like = refl
alike_answer manner (l ∷ ls) base T like =
    one_answer manner ls base T like (λ b S h. alike_answer manner ls b S h) (request_for manner base l)

pub snapshots_answer : SnapshotsAnswer
snapshots_answer manner lines base times parts fit_library fit same forgets =
    alike_answer manner lines base (state_by_snapshot base times parts) (snapshots_are_alike base.library base.state base.clock times parts fit_library fit same forgets)
