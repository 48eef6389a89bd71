-- Findings that are added one after another.
use Rattle.std.proofs.Common.{arith, ◌≡◌, sym, ap, ◌∙◌, ℕ, suc, ◌+◌, List, ◌++◌, Result, Ok, Err, append_assoc}
use Rattle.std.specs.Prelude.{OnOk}
use Rattle.std.specs.Global.{Vec}
use Rattle.hp_model.specs.Values.{Name}
use Rattle.hp_model.specs.Rules.{Statement, Body, ◌then◌, Library}
use Rattle.hp_model.specs.Refusals.{Path, item_at}
use Rattle.hp_model.specs.Kinds.{Declared, Scope}
use Rattle.hp_analysis.specs.Findings as F
use Rattle.hp_analysis.specs.Findings.{own_findings, inner_findings, body_findings}
use Rattle.hp_analysis.specs.Kinded.{findings, Notes}
use Rattle.hp_analysis.specs.declared.kinds.finding.Finding.{Finding}

-- of two bodies
pub then_notes : {A E : Type 0} (before mid after : Vec Finding) (fs gs : List F.Finding) (done : Result A E) → Notes before mid fs → OnOk done (Notes mid after gs)
    → OnOk done (Notes before after (fs ++ gs))
then_notes before mid after fs gs (Ok x) first second = second ∙ ap (λ t. t ++ gs) first ∙ append_assoc (findings before.items) fs gs
then_notes before mid after fs gs (Err e) first second = tt

-- of a statement, the statements in it, and those after it
pub body_noted : (library : Library) (d : Declared) (scope : Scope) (queries : List (Name × ℕ)) (path : Path) (i : ℕ) (s : Statement) (before rest : Body)
    (old mid new whole : List F.Finding) → before ≡ (s then rest)
    → mid ≡ old ++ own_findings library d scope queries (item_at path i) s → new ≡ mid ++ inner_findings library d scope queries (item_at path i) s
    → old ++ body_findings library d scope queries path i before ≡ whole → new ++ body_findings library d scope queries path (i + 1) rest ≡ whole
body_noted library d scope queries path i s before rest old mid new whole split first second kept =
    let own = own_findings library d scope queries (item_at path i) s in
    let inner = inner_findings library d scope queries (item_at path i) s in
    let later = body_findings library d scope queries path (suc i) rest in
    let next : i + 1 ≡ suc i = omega arith in
    ap (λ k. new ++ body_findings library d scope queries path k rest) next
    ∙ ap (λ t. t ++ later) second ∙ append_assoc mid inner later
    ∙ ap (λ t. t ++ (inner ++ later)) first ∙ append_assoc old own (inner ++ later)
    ∙ ap (λ b. old ++ body_findings library d scope queries path i b) (sym split) ∙ kept
