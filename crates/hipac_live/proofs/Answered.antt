-- What is written by some declaration.
use Rattle.std.proofs.Common.{◌≡◌, ◌≢◌, refl, sym, subst, ap, ◌∙◌, ℕ, List, [], ◌++◌, append-nil, Option, Some, None, Result, Ok, Err, IfOk, IfSome, OnOk}
use Rattle.std.specs.Io.KnownBytes.{Appends, Consumes}
use Rattle.hp_model.specs.Kinds.{Declared}
use Rattle.hp_model.specs.Report.{Bytes}
use Rattle.hp_report.specs.Device.{Begins}
use Rattle.hp_report.specs.Exits.{code_of}
use Rattle.hp_report.specs.declared.fault.Fault.{Fault}
use Rattle.hp_report.specs.declared.status.Status.{Status}
use Rattle.hp_report.proofs.Exits.{unless_fault}
use Rattle.hp_analysis.proofs.Signatures.{keeps_same}
use Rattle.hp_lines.specs.Live.{Manner, output}
use Rattle.hp_checked.specs.Readings.{KeepsGiven}
use Rattle.hp_live.specs.Ends.{status_of}
use Rattle.hp_live.specs.Kept.{manner}
use Rattle.hp_live.specs.declared.options.Options as live
use Rattle.hp_words.specs.declared.words.Options.{Options}
use Rattle.hipac_live.specs.Asked.{manner_of}
use Rattle.hipac_live.specs.Answered.{ForManner, Answers, EndsWith}

-- what is given keeps itself
given_keeps : (given : Option Declared) → KeepsGiven given given
given_keeps None = tt
given_keeps (Some d) = keeps_same d

-- before anything is written
begins_before : (w : Option (List ℕ)) (text : List ℕ) → Begins w w text
begins_before None text = ([], text, refl, tt)
begins_before (Some xs) text = ([], text, refl, sym (append-nil xs))

-- no answer is begun before the start is known
pub not_begun : (words : Options) (given : Option Declared) (script : Option Bytes) (fault : Fault) (left w : Option (List ℕ))
    → IfSome left (λ input. ForManner words given (λ m. Answers m script input (Err fault) w w))
not_begun words given script fault None w = tt
not_begun words given script fault (Some input) w = (given, given_keeps given, record { status = tt; output = tt; begins = begins_before w _ })

-- the answers of a run with what it begins with are those to all bytes of the input
pub answered : (words : Options) (options : live.Options) (given checks : Option Declared) (script : Option Bytes) (result : Result Status Fault) (left rest old new : Option (List ℕ)) (ahead : List ℕ)
    → ((c : Option Declared) → manner options c ≡ manner_of words c) → KeepsGiven given checks → Consumes left rest ahead
    → OnOk result (IfSome rest (λ input. Appends old new (output (manner options checks) script (ahead ++ input))))
    → IfOk result (λ status. IfSome rest (λ input. status ≡ status_of (manner options checks) script (ahead ++ input)))
    → IfSome rest (λ input. Begins old new (output (manner options checks) script (ahead ++ input)))
    → IfSome left (λ input. ForManner words given (λ m. Answers m script input result old new))
answered words options given checks script result None rest old new ahead same keeps taken out status begins = tt
answered words options given checks script result (Some input) None old new ahead same keeps taken out status begins = absurd taken
answered words options given checks script (Ok s) (Some input) (Some r) old new ahead same keeps taken out status begins = (
  checks,
  keeps,
  subst (λ (m : Manner). Answers m script input (Ok s) old new) (same checks)
      (subst (λ (i : List ℕ). Answers (manner options checks) script i (Ok s) old new) (sym taken) (record { status = status; output = out; begins = begins })),
)
answered words options given checks script (Err f) (Some input) (Some r) old new ahead same keeps taken out status begins = (
  checks,
  keeps,
  subst (λ (m : Manner). Answers m script input (Err f) old new) (same checks)
      (subst (λ (i : List ℕ). Answers (manner options checks) script i (Err f) old new) (sym taken) (record { status = tt; output = tt; begins = begins })),
)

code_by : (m : Manner) (script : Option Bytes) (input : List ℕ) (result : Result Status Fault) (code : ℕ) → code ≡ code_of result → IfOk result (λ status. status ≡ status_of m script input)
    → code ≢ 4 → code ≡ code_of (Ok (status_of m script input))
code_by m script input (Ok s) code is told isnt = is ∙ ap (λ status. code_of (Ok status)) told
code_by m script input (Err f) code is told isnt = absurd (isnt is)

-- the same by the exit status
pub ended : (words : Options) (given : Option Declared) (script : Option Bytes) (result : Result Status Fault) (code : ℕ) (left old new : Option (List ℕ)) → code ≡ code_of result
    → IfSome left (λ input. ForManner words given (λ m. Answers m script input result old new))
    → IfSome left (λ input. ForManner words given (λ m. EndsWith m script input code old new))
ended words given script result code None old new is h = tt
ended words given script result code (Some input) old new is h =
    let checks = h.0 in
    let m = manner_of words checks in (
      checks,
      h.1,
      record {
        code_is = code_by m script input result code is h.2.status;
        output = unless_fault result code is h.2.output;
        begins = h.2.begins;
      },
    )
