-- The exit status after a run.
use Rattle.std.proofs.Common.{◌≡◌, ◌≢◌, ap, sym, subst, ◌∙◌, ℕ, List, Option, Some, None, Result, Ok, Err, IfOk, IfSome, OnOk}
use Rattle.hp_report.specs.declared.status.Status.{Status}
use Rattle.hp_report.specs.declared.fault.Fault.{Fault}
use Rattle.hp_report.specs.Exits.{code_of}

-- what holds of the options that were given
pub if_asked : {O E : Type 0} (asked : Result O E) (options : O) (P : O → Type 0) → asked ≡ Ok options → P options → IfOk asked P
if_asked asked options P is holds = subst (λ a. IfOk a P) (sym is) holds

-- what holds after a run that is Ok holds unless the exit status is 4
pub unless_fault : {P : Type 0} (ended : Result Status Fault) (code : ℕ) → code ≡ code_of ended → OnOk ended P → code ≢ 4 → P
unless_fault (Ok s) code is holds isnt = holds
unless_fault (Err f) code is holds isnt = absurd (isnt is)

-- so its status is known
pub code_told : (wanted : List ℕ → Status) (ended : Result Status Fault) (known : Option (List ℕ)) (code : ℕ) → code ≡ code_of ended
    → IfOk ended (λ status. IfSome known (λ input. status ≡ wanted input)) → code ≢ 4 → IfSome known (λ input. code ≡ code_of (Ok (wanted input)))
code_told wanted (Ok s) None code is told isnt = tt
code_told wanted (Ok s) (Some input) code is told isnt = is ∙ ap (λ status. code_of (Ok status)) told
code_told wanted (Err f) known code is told isnt = absurd (isnt is)
